-- `dvi2_frame::put_bop` meets its contract: one write after the other, or none.
-- Assumes nothing.
use mathlib.Core.Path.{refl, ap}
use Rattle.integers.specs.Bits.{plain}
use Rattle.octets.specs.Octets.{bytes, signed_bytes}
use Rattle.octets.specs.Write.{then, named, room_after}
use Rattle.dvi2.specs.Writer.{bop_bytes}
use Rattle.dvi2.specs.WriterLaws.{length_bop}
use Rattle.octets.specs.PutIfRoomLaws.{put_if_room_written, put_if_room_counted}
use Rattle.dvi2_frame.proofs.put_bop.Goals as goal

pub returns-then-out-at : goal.returns-then-out-at
returns-then-out-at c = put_if_room_counted _ _ _ 45 (length_bop _ _) c.if-out-at.true

pub put_signed4-requires : goal.put_signed4-requires
unfolding bytes
put_signed4-requires c = room_after (then c.put_byte-to.ensures c.put_counts-to.ensures) 41 4 refl c.if-out-at.false

pub returns : goal.returns
unfolding bop_bytes bytes
returns c =
    put_if_room_written
    (then c.put_byte-to.ensures
    (then c.put_counts-to.ensures (named (ap (signed_bytes 4) (plain c.ranges.previous)) c.put_signed4.ensures)))
