-- `dvi2_frame::post` meets its contract: post, written alone into its array.
-- Assumes nothing.
use Rattle.octets.specs.PutIfRoomLaws.{put_if_room_whole}
use Rattle.dvi2_frame.specs.FrameLaws.{length_post}
use Rattle.dvi2_frame.proofs.post.Goals as goal

pub returns : goal.returns
returns c = put_if_room_whole c.put_post.ensures (length_post _ _ _ _)
