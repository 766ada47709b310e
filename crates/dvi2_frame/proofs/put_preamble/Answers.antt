-- `dvi2_frame::put_preamble` meets its contract: one write after the other, or none.
-- Assumes nothing.
use mathlib.Core.Path.{refl}
use Rattle.octets.specs.Octets.{bytes}
use Rattle.octets.specs.Write.{then, room_after}
use Rattle.dvi2.specs.Writer.{unit_bytes, preamble_bytes}
use Rattle.octets.specs.PutIfRoomLaws.{put_if_room_written, put_if_room_counted}
use Rattle.dvi2_frame.proofs.put_preamble.Goals as goal

pub returns-then-out-lt-PRE_LENGTH : goal.returns-then-out-lt-PRE_LENGTH
unfolding preamble_bytes unit_bytes bytes
returns-then-out-lt-PRE_LENGTH c = put_if_room_counted _ 0 _ 15 refl c.if-out-lt-PRE_LENGTH.true

pub put_byte-requires : goal.put_byte-requires
unfolding unit_bytes bytes
put_byte-requires c =
    room_after (then c.put_byte-to.ensures (then c.put_byte-to-2.ensures c.put_unit-to.ensures)) 14 1 refl c.if-out-lt-PRE_LENGTH.false

pub returns : goal.returns
unfolding preamble_bytes
returns c =
    put_if_room_written
    (then c.put_byte-to.ensures (then c.put_byte-to-2.ensures (then c.put_unit-to.ensures c.put_byte.ensures)))
