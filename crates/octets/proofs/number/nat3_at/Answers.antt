-- `octets::number::nat3_at` meets its contract: one byte more than two.
-- Assumes nothing.
use native.Mathlib.Omega.{arith}
use Rattle.octets.specs.OctetsLaws.{nat_at_more}
use Rattle.octets.proofs.number.nat3_at.Goals as goal

pub returns : goal.returns
returns c =
    let a = c.args in
    let e = nat_at_more 2 a.at a.s.now (omega arith) in
    (omega (arith, e), omega arith)
