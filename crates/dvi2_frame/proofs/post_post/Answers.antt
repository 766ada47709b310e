-- `dvi2_frame::post_post` meets its contract: post_post, written alone into its array.
-- Assumes nothing.
use Rattle.octets.specs.PutIfRoomLaws.{put_if_room_whole}
use Rattle.dvi2_frame.specs.FrameLaws.{length_post_post}
use Rattle.dvi2_frame.proofs.post_post.Goals as goal

pub returns : goal.returns
returns c = put_if_room_whole c.put_post_post.ensures (length_post_post _)
