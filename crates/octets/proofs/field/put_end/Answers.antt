-- `octets::field::put_end` meets its contract: one write after the other.
-- Assumes nothing.
use native.Mathlib.Omega.{arith}
use Rattle.octets.specs.Octets.{bytes}
use Rattle.octets.specs.Field.{field, end_field}
use Rattle.octets.specs.Write.{then}
use Rattle.octets.proofs.field.put_end.Goals as goal

pub put_nat4-requires : goal.put_nat4-requires
unfolding bytes
put_nat4-requires c = let h = c.put_head-next in omega (arith, h.ensures.next_is, h.auto.out)

pub returns : goal.returns
unfolding end_field field bytes
returns c = then c.put_head-next.ensures c.put_nat4.ensures
