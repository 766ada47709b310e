-- `octets::number::put_nat4` meets its contract: two bytes, and two more.
-- Assumes nothing.
use native.Mathlib.Omega.{arith}
use Rattle.octets.specs.Octets.{bytes}
use Rattle.octets.specs.WordLaws.{bytes_halves}
use Rattle.octets.specs.Write.{then, named}
use Rattle.octets.proofs.number.put_nat4.Goals as goal

pub put_nat2-requires : goal.put_nat2-requires
unfolding bytes
put_nat2-requires c = let p = c.put_nat2-next in omega (arith, p.ensures.next_is, p.auto.out)

pub returns : goal.returns
returns c =
    named (bytes_halves c.args.n) (then c.put_nat2-next.ensures c.put_nat2.ensures)
