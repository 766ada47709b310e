-- `dvi2_writer::writing::Writing::put_character` meets its contract: the marks tell whether the font is defined.
-- Assumes nothing.
use mathlib.Core.Path.{◌≡◌, ap, ◌∙◌}
use mathlib.Core.Bool.{Bool}
use native.Mathlib.Omega.{arith}
use Rattle.galley_file.specs.CharacterLaws.{valid_parts}
use Rattle.dvi2.specs.Writer.{commands_of}
use Rattle.dvi2_commands.specs.Position.{position_of}
use Rattle.octets.specs.PutIfRoomLaws.{put_if_room_named}
use Rattle.dvi2_writer.proofs.Writings.{commands_are, writing_character}
use Rattle.dvi2_writer.proofs.writing.Writing.put_character.Goals as goal

pub has_font-known-requires : goal.has_font-known-requires
has_font-known-requires c = (valid_parts c.requires.1).font

pub put_commands-at-requires : goal.put_commands-at-requires
put_commands-at-requires c = (omega (arith, c.requires.0.at_small), (c.requires.0.on_page, c.requires.1))

pub returns : goal.returns
returns c is h =
    let a = c.args in
    let e = ap (λ (t : Bool). commands_of t (position_of a.self.position) a.c) c.has_font-known.ensures ∙ commands_are a.self is h a.c (valid_parts c.requires.1).font in
    let w = put_if_room_named e c.put_commands-at.ensures in
    let r = c.after_character.ensures in
    let l : c.after_character.result.at ≡ c.put_commands-at.result = r.at_is in
    (rw l w, writing_character a.self is h _ a.c _ c.requires.1 r w.next_is)
