-- `dvi_characters::position::Position::after` meets its contract, by the kinds of item.
-- Assumes nothing.
use mathlib.Core.Path.{sym, ap, ◌∙◌}
use Rattle.measure.specs.Place.{low_end}
use Rattle.galley_file.specs.Item.{valid_item}
use Rattle.dvi_characters.specs.PositionLaws.{position_set, position_kind}
use Rattle.dvi_characters.proofs.position.Position.after.Goals as goal

pub at_character-requires : goal.at_character-requires
at_character-requires c =
    record { c_value = sym (ap (valid_item low_end) c.in-Placed.is) ∙ c.requires.i_value; targets_value = c.requires.targets_value }

pub returns-in-Placed : goal.returns-in-Placed
returns-in-Placed c = position_kind _ (sym c.in-Placed.is) (position_set _ _ c.at_character.ensures)

pub returns-in-Cut : goal.returns-in-Cut
returns-in-Cut c = position_kind _ (sym c.in-Cut.is) c.start.ensures
