-- `octets::number::nat2_at` meets its contract: one byte more, twice.
-- Assumes nothing.
use native.Mathlib.Omega.{arith}
use Rattle.octets.specs.WordLaws.{nat_at_two}
use Rattle.octets.proofs.number.nat2_at.Goals as goal

pub returns : goal.returns
returns c =
    let a = c.args in
    let e = nat_at_two a.at a.s.now (omega arith) in
    (omega (arith, e), omega arith)
