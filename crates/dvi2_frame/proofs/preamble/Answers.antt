-- `dvi2_frame::preamble` meets its contract: the preamble, written alone into its array.
-- Assumes nothing.
use Rattle.octets.specs.PutIfRoomLaws.{put_if_room_whole}
use Rattle.dvi2_frame.specs.FrameLaws.{length_preamble}
use Rattle.dvi2_frame.proofs.preamble.Goals as goal

pub returns : goal.returns
returns c = put_if_room_whole c.put_preamble.ensures length_preamble
