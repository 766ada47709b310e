-- `dvi2_frame::put_unit` meets its contract: one write after the other.
-- Assumes nothing.
use mathlib.Core.Path.{refl}
use native.Mathlib.Omega.{arith}
use Rattle.octets.specs.Octets.{bytes}
use Rattle.octets.specs.Write.{then, room_after}
use Rattle.dvi2.specs.Writer.{unit_bytes}
use Rattle.dvi2_frame.proofs.put_unit.Goals as goal

pub put_nat4-to-requires-2 : goal.put_nat4-to-requires-2
unfolding bytes
put_nat4-to-requires-2 c = omega (arith, room_after c.put_nat4-to.ensures 4 8 refl c.requires)

pub put_nat4-requires : goal.put_nat4-requires
unfolding bytes
put_nat4-requires c = room_after (then c.put_nat4-to.ensures c.put_nat4-to-2.ensures) 8 4 refl c.requires

pub returns : goal.returns
unfolding unit_bytes
returns c = then c.put_nat4-to.ensures (then c.put_nat4-to-2.ensures c.put_nat4.ensures)
