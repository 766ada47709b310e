-- `dvi2_commands::position::Position::put_commands` meets its contract: one run after the other.
-- Assumes nothing.
use mathlib.Core.Path.{ap, ◌∙◌}
use mir.Syntax.{w32}
use mir.Val.{SFits}
use Rattle.integers.specs.Bits.{plain}
use native.Mathlib.Omega.{arith}
use borrow.Author.Rules.{rules}
use Rattle.galley_file.specs.CharacterLaws.{valid_parts}
use Rattle.dvi2.specs.Command.{RIGHT1, DOWN1}
use Rattle.dvi2.specs.Writer.{move, commands_of}
use Rattle.dvi2.specs.WriterLaws.{font_change_most, move_most}
use Rattle.octets.specs.PutIfRoomLaws.{put_if_room_then, put_if_room_named, put_if_room_next}
use Rattle.dvi2_commands.proofs.position.Position.put_commands.Goals as goal

pub put_font-to-requires : goal.put_font-to-requires
put_font-to-requires c = (c.requires.0, (valid_parts c.requires.1.1).font)

pub put_move-to-requires : goal.put_move-to-requires
put_move-to-requires c =
    (omega (arith, c.requires.0, put_if_room_next c.put_font-to.ensures 22 (font_change_most _ _ _)), omega arith)

pub put_move-to-requires-2 : goal.put_move-to-requires-2
put_move-to-requires-2 c =
    (omega (arith, c.requires.0, put_if_room_next c.put_font-to.ensures 22 (font_change_most _ _ _), put_if_room_next c.put_move-to.ensures 5 (move_most _ _)), omega arith)

pub put_bytes-requires : goal.put_bytes-requires
put_bytes-requires c =
    omega (arith, c.requires.0, put_if_room_next c.put_font-to.ensures 22 (font_change_most _ _ _), put_if_room_next c.put_move-to.ensures 5 (move_most _ _), put_if_room_next c.put_move-to-2.ensures 5 (move_most _ _))

pub returns : goal.returns
unfolding commands_of
returns c =
    let f : SFits w32 c.right_to-right.result = search rules in
    let g : SFits w32 c.down_to-down.result = search rules in
    put_if_room_then c.put_font-to.ensures
    (put_if_room_then (put_if_room_named (ap (move RIGHT1) (plain f ∙ c.right_to-right.ensures)) c.put_move-to.ensures)
    (put_if_room_then (put_if_room_named (ap (move DOWN1) (plain g ∙ c.down_to-down.ensures)) c.put_move-to-2.ensures) c.put_bytes.ensures))
