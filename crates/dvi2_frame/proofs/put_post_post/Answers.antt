-- `dvi2_frame::put_post_post` meets its contract: one write after the other, or none.
-- Assumes nothing.
use mathlib.Core.Path.{refl}
use native.Mathlib.Omega.{arith}
use Rattle.octets.specs.Octets.{bytes}
use Rattle.octets.specs.Write.{then, room_after}
use Rattle.dvi2_frame.specs.Frame.{post_post_of}
use Rattle.octets.specs.PutIfRoomLaws.{put_if_room_written, put_if_room_counted}
use Rattle.dvi2_frame.specs.FrameLaws.{length_post_post}
use Rattle.dvi2_frame.proofs.put_post_post.Goals as goal

pub returns-then-out-at : goal.returns-then-out-at
returns-then-out-at c = put_if_room_counted _ _ _ 6 (length_post_post _) c.if-out-at.true

pub put_byte-requires : goal.put_byte-requires
unfolding bytes
put_byte-requires c = omega (arith, room_after (then c.put_byte-to.ensures c.put_nat4-to.ensures) 5 1 refl c.if-out-at.false)

pub returns : goal.returns
unfolding post_post_of
returns c = put_if_room_written (then c.put_byte-to.ensures (then c.put_nat4-to.ensures c.put_byte.ensures))
