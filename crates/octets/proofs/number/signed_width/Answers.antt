-- `octets::number::signed_width` meets its contract: its tests are those of `width_of`.
-- Assumes nothing.
use mathlib.Core.Path.{◌≡◌, ap, ◌∙◌}
use Prim.Native.Nat.{◌≤◌, ◌<◌}
use native.Mathlib.Omega.{arith}
use borrow.Author.Tests.{lt-ltb, le-ltb}
use lib.Signed.{mag}
use Rattle.integers.specs.Bits.{plain}
use Rattle.octets.specs.Octets.{width_of}
use Rattle.octets.proofs.number.signed_width.Goals as goal
use Rattle.octets.proofs.number.signed_width.Goals.{After-magnitude-m}

size : (c : After-magnitude-m) → c.magnitude-m.result ≡ mag c.args.z
size c = c.magnitude-m.ensures ∙ ap mag (plain c.ranges.z)

pub returns-then-m-lt32768 : goal.returns-then-m-lt32768
unfolding width_of
returns-then-m-lt32768 c =
    let h : mag c.args.z < 32768 = omega (arith, size (goal.at.returns-then-m-lt32768 c).After-magnitude-m) in
    (rw (lt-ltb _ _ h), omega arith)

pub returns-then-m-lt8388608 : goal.returns-then-m-lt8388608
unfolding width_of
returns-then-m-lt8388608 c =
    let l : 32768 ≤ mag c.args.z = omega (arith, size (goal.at.returns-then-m-lt8388608 c).After-magnitude-m) in
    let h : mag c.args.z < 8388608 = omega (arith, size (goal.at.returns-then-m-lt8388608 c).After-magnitude-m) in
    (rw (le-ltb _ _ l, lt-ltb _ _ h), omega arith)

pub returns-else-m-lt8388608 : goal.returns-else-m-lt8388608
unfolding width_of
returns-else-m-lt8388608 c =
    let l : 32768 ≤ mag c.args.z = omega (arith, size (goal.at.returns-else-m-lt8388608 c).After-magnitude-m) in
    let h : 8388608 ≤ mag c.args.z = omega (arith, size (goal.at.returns-else-m-lt8388608 c).After-magnitude-m) in
    (rw (le-ltb _ _ l, le-ltb _ _ h), omega arith)
