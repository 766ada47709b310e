-- `octets::number::nat4_at` meets its contract: two bytes, and two more.
-- Assumes nothing.
use native.Mathlib.Omega.{arith}
use Rattle.octets.specs.WordLaws.{nat_at_halves}
use Rattle.octets.proofs.number.nat4_at.Goals as goal

pub returns : goal.returns
returns c =
    let a = c.args in
    omega (arith, nat_at_halves a.at a.s.now (omega arith))
