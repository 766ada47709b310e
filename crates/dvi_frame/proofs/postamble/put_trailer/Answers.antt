-- `dvi_frame::postamble::put_trailer` meets its contract: one write after the other.
-- Assumes nothing.
use mathlib.Core.Path.{refl, sym}
use native.Mathlib.Omega.{arith}
use Rattle.octets.specs.Octets.{bytes, signed_bytes}
use Rattle.octets.specs.OctetsLaws.{signed_bytes_pos}
use Rattle.octets.specs.Write.{then, named, room_after}
use Rattle.dvi.specs.Writer.{trailer_bytes}
use Rattle.dvi_frame.proofs.postamble.put_trailer.Goals as goal

pub put_nat4-to-requires : goal.put_nat4-to-requires
unfolding bytes signed_bytes
put_nat4-to-requires c =
    room_after c.put_signed4-to.ensures 4 4 refl (omega (arith, c.requires))

pub put_byte-to-requires : goal.put_byte-to-requires
unfolding bytes signed_bytes
put_byte-to-requires c =
    room_after (then c.put_signed4-to.ensures c.put_nat4-to.ensures) 8 1 refl (omega (arith, c.requires))

pub put_nat4-requires : goal.put_nat4-requires
unfolding bytes signed_bytes
put_nat4-requires c =
    room_after (then (then c.put_signed4-to.ensures c.put_nat4-to.ensures) c.put_byte-to.ensures) 9 4 refl c.requires

pub returns : goal.returns
unfolding trailer_bytes bytes
returns c =
    then c.put_signed4-to.ensures (then (named (sym (signed_bytes_pos 4 c.args.pst)) c.put_nat4-to.ensures)
    (then c.put_byte-to.ensures c.put_nat4.ensures))
