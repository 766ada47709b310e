-- `dvi2_commands::command::parameter_width` meets its contract: its test is that of the definition.
-- Assumes nothing.
use mathlib.Core.Path.{◌≡◌, ap, ◌∙◌}
use Prim.Native.Nat.{◌≤◌, ◌<◌}
use native.Mathlib.Omega.{arith}
use borrow.Author.Tests.{lt-ltb, le-ltb}
use lib.Signed.{mag}
use Rattle.integers.specs.Bits.{plain}
use Rattle.octets.specs.Octets as octets
use Rattle.dvi2.specs.Writer.{parameter_width}
use Rattle.dvi2_commands.proofs.command.parameter_width.Goals as goal
use Rattle.dvi2_commands.proofs.command.parameter_width.Goals.{After-magnitude}

size : (c : After-magnitude) → c.magnitude.result ≡ mag c.args.z
size c = c.magnitude.ensures ∙ ap mag (plain c.ranges.z)

pub returns-then-magnitude-lt128 : goal.returns-then-magnitude-lt128
unfolding parameter_width
returns-then-magnitude-lt128 c =
    let h : mag c.args.z < 128 = omega (arith, size (goal.at.returns-then-magnitude-lt128 c).After-magnitude, c.if-magnitude-lt128.true) in
    (rw (lt-ltb _ _ h), omega arith)

pub returns-else-magnitude-lt128 : goal.returns-else-magnitude-lt128
unfolding parameter_width
returns-else-magnitude-lt128 c =
    let h : 128 ≤ mag c.args.z = omega (arith, size (goal.at.returns-else-magnitude-lt128 c).After-magnitude, c.if-magnitude-lt128.false) in
    (rw (le-ltb _ _ h) (c.signed_width.ensures.0 ∙ ap octets.width_of (plain c.ranges.z)), omega (arith, c.signed_width.ensures.1))
