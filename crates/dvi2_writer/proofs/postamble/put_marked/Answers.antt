-- `dvi2_writer::postamble::put_marked` meets its contract: its test is that of `is_marked`.
-- Assumes nothing.
use mathlib.Core.Path.{sym, ◌∙◌}
use mathlib.Core.List.{flatten, append-nil}
use Rattle.dvi2.specs.Writer.{definition}
use Rattle.octets.specs.PutIfRoomLaws.{put_if_room_none, put_if_room_named}
use Rattle.dvi2_writer.proofs.postamble.put_marked.Goals as goal

pub returns-then-has_font : goal.returns-then-has_font
unfolding flatten
returns-then-has_font c =
    rw (sym c.has_font.ensures ∙ c.if-has_font.true)
    (put_if_room_named (sym (append-nil (definition c.args.f))) c.put_definition.ensures)

pub returns-else-has_font : goal.returns-else-has_font
unfolding flatten
returns-else-has_font c = rw (sym c.has_font.ensures ∙ c.if-has_font.false) (put_if_room_none _ _)
