-- `dvi2_writer::postamble::put_postamble` meets its contract: one run after the other.
-- Assumes nothing.
use native.Mathlib.Omega.{arith}
use Rattle.dvi2_writer.specs.Postamble.{postamble_of}
use Rattle.octets.specs.PutIfRoomLaws.{put_if_room_then, put_if_room_next}
use Rattle.dvi2_frame.specs.FrameLaws.{post_most}
use Rattle.dvi2_writer.proofs.Postambles.{define_most}
use Rattle.dvi2_writer.proofs.postamble.put_postamble.Goals as goal

pub put_post-to-requires : goal.put_post-to-requires
put_post-to-requires c = (omega (arith, c.requires.at_small), c.requires.ranged)

pub put_definitions-to-requires : goal.put_definitions-to-requires
put_definitions-to-requires c = omega (arith, c.requires.at_small, put_if_room_next c.put_post-to.ensures 29 (post_most _ _ _ _))

pub overflow_cast-post : goal.overflow_cast-post
overflow_cast-post c = omega (arith, c.requires.at_small)

pub put_post_post-requires : goal.put_post_post-requires
put_post_post-requires c =
    omega (arith, c.requires.at_small, put_if_room_next c.put_post-to.ensures 29 (post_most _ _ _ _), c.put_definitions-to.ensures.next_is, define_most c.args.p.extents.fonts.low c.args.p.extents.fonts.high 120)

pub returns : goal.returns
unfolding postamble_of
returns c =
    put_if_room_then c.put_post-to.ensures
    (put_if_room_then c.put_definitions-to.ensures c.put_post_post.ensures)
