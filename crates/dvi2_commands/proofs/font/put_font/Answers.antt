-- `dvi2_commands::font::put_font` meets its contract: its tests are those of the font change.
-- Assumes nothing.
use mathlib.Core.Path.{sym, ap, ◌∙◌}
use mathlib.Core.Bool.{Bool}
use native.Mathlib.Omega.{arith}
use Rattle.dvi2.specs.Writer.{font_commands}
use Rattle.dvi2.specs.WriterLaws.{length_definition}
use Rattle.octets.specs.PutIfRoomLaws.{put_if_room_none, put_if_room_then, put_if_room_named}
use Rattle.dvi2_commands.proofs.Positions.{same_font, other_font}
use Rattle.dvi2_commands.proofs.font.put_font.Goals as goal

pub returns-then-last-f : goal.returns-then-last-f
returns-then-last-f c = put_if_room_named (sym (same_font _ _ _ c.requires.1 c.if-last-f.true)) (put_if_room_none _ _)

pub returns-then-known : goal.returns-then-known
unfolding font_commands
returns-then-known c =
    let a = c.args in
    put_if_room_named (sym (other_font _ _ _ c.if-last-f.false ∙ ap (λ (t : Bool). font_commands t a.f) c.if-known.true)) c.put_select.ensures

pub put_select-requires-else-known : goal.put_select-requires-else-known
put_select-requires-else-known c =
    (omega (arith, c.requires.0, c.put_definition-to.ensures.next_is, length_definition c.args.f), c.requires.1)

pub returns-else-known : goal.returns-else-known
unfolding font_commands
returns-else-known c =
    let a = c.args in
    put_if_room_named (sym (other_font _ _ _ c.if-last-f.false ∙ ap (λ (t : Bool). font_commands t a.f) c.if-known.false))
    (put_if_room_then c.put_definition-to.ensures c.put_select-else-known.ensures)
