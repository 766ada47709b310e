-- `dvi_frame::postamble::put_postamble` meets its contract: one write after the other.
-- Assumes nothing.
use mathlib.Core.Path.{refl}
use Prim.Native.Nat.{◌+◌, ◌≤◌}
use native.Mathlib.Omega.{arith}
use lib.ListN.{length}
use Rattle.octets.specs.Write.{then, named, room_after}
use Rattle.extents.specs.FontMarks.{marked_fonts}
use Rattle.dvi.specs.Writer.{definition_bytes}
use Rattle.dvi_frame.specs.Postamble.{head_bytes, postamble_of}
use Rattle.dvi_frame.proofs.Definitions.{length_head, length_post}
use Rattle.dvi_frame.proofs.postamble.put_postamble.Goals as goal
use Rattle.dvi_frame.proofs.postamble.put_postamble.Goals.{Start}

-- the postamble's bytes have room
room : (s : Start) → s.args.at + (26 + length (definition_bytes (marked_fonts 120 s.args.e.fonts.low s.args.e.fonts.high))) ≤ length s.args.out.now
room s = omega (arith, s.requires.1.0, length_post s.args.last s.args.at s.args.e)

pub of-sizes-requires : goal.of-sizes-requires
of-sizes-requires c = c.requires.0

pub put_head-to-requires : goal.put_head-to-requires
put_head-to-requires c = omega (arith, room (goal.at.put_head-to-requires c).Start)

pub put_definitions-to-requires : goal.put_definitions-to-requires
put_definitions-to-requires c =
    room_after c.put_head-to.ensures 13 _ (length_head _ _ _) (omega (arith, room (goal.at.put_definitions-to-requires c).Start))

pub overflow_cast-at : goal.overflow_cast-at
overflow_cast-at c = omega (arith, c.requires.1.1)

pub put_trailer-requires : goal.put_trailer-requires
put_trailer-requires c =
    let k = length (definition_bytes (marked_fonts 120 c.args.e.fonts.low c.args.e.fonts.high)) in
    room_after c.put_definitions-to.ensures k 13 refl (room_after c.put_head-to.ensures 13 (k + 13) (length_head _ _ _) (omega (arith, room (goal.at.put_trailer-requires c).Start)))

pub returns : goal.returns
unfolding postamble_of
returns c =
    let e = c.of-sizes.ensures in
    let l = c.args.last in
    then (named (λ i. head_bytes l (e.1 i) (e.0 i)) c.put_head-to.ensures) (then c.put_definitions-to.ensures c.put_trailer.ensures)
