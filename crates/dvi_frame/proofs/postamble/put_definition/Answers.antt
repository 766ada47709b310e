-- `dvi_frame::postamble::put_definition` meets its contract: one write after the other.
-- Assumes nothing.
use mathlib.Core.Path.{refl, sym}
use native.Mathlib.Omega.{arith}
use Rattle.octets.specs.Octets.{bytes}
use Rattle.octets.specs.OctetsLaws.{signed_bytes_pos}
use Rattle.octets.specs.Write.{then, named, room_after}
use Rattle.dvi.specs.Writer.{name_of, definition}
use Rattle.dvi_frame.proofs.postamble.put_definition.Goals as goal

pub put_nat4-to-requires-2 : goal.put_nat4-to-requires-2
unfolding bytes
put_nat4-to-requires-2 c =
    room_after c.put_nat4-to.ensures 4 4 refl (omega (arith, c.requires.0))

pub put_byte-to-requires : goal.put_byte-to-requires
unfolding bytes
put_byte-to-requires c =
    room_after (then c.put_nat4-to.ensures c.put_nat4-to-2.ensures) 8 1 refl (omega (arith, c.requires.0))

pub put_name-to-requires : goal.put_name-to-requires
unfolding bytes
put_name-to-requires c =
    let w = then (then c.put_nat4-to.ensures c.put_nat4-to-2.ensures) c.put_byte-to.ensures in
    (room_after w 9 4 refl (omega (arith, c.requires.0)), c.requires.1)

pub put_byte-requires : goal.put_byte-requires
unfolding bytes name_of
put_byte-requires c =
    let w = then (then (then c.put_nat4-to.ensures c.put_nat4-to-2.ensures) c.put_byte-to.ensures) c.put_name-to.ensures in
    room_after w 13 1 refl (omega (arith, c.requires.0))

pub returns : goal.returns
unfolding definition
returns c =
    let n = sym (signed_bytes_pos 4 c.args.f) in
    then (named n c.put_nat4-to.ensures) (then (named n c.put_nat4-to-2.ensures)
    (then c.put_byte-to.ensures (then c.put_name-to.ensures c.put_byte.ensures)))
