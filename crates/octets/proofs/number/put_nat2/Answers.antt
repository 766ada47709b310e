-- `octets::number::put_nat2` meets its contract: the stores are those of `sets`.
-- Assumes nothing.
use mathlib.Core.Path.{◌≡◌, refl}
use Prim.Native.Nat.{suc, ◌+◌}
use native.Mathlib.Nat.{div-one}
use native.Mathlib.Omega.{arith}
use Rattle.octets.specs.Octets.{bytes}
use Rattle.octets.proofs.number.put_nat2.Goals as goal

pub returns : goal.returns
unfolding bytes
returns c =
    let at = c.args.at in
    let e : at + 1 ≡ suc at = omega arith in
    record { buffer_is = rw (e, div-one); next_is = refl }
