-- `dvi2_writer::writing::Writing::after_character` meets its contract.
-- Assumes nothing.
use mathlib.Core.Path.{refl}
use Rattle.galley_file.specs.CharacterLaws.{valid_parts}
use Rattle.dvi2_writer.proofs.writing.Writing.after_character.Goals as goal

pub with_character-requires : goal.with_character-requires
with_character-requires c = (valid_parts c.requires).font

pub returns : goal.returns
returns c =
    record {
      position = c.at_character.ensures;
      extents_are = c.with_character.ensures;
      page_is = refl;
      bop_is = refl;
      at_is = refl;
    }
