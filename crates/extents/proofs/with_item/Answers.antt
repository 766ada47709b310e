-- `extents::with_item` meets its contract, by the kinds of item.
-- Assumes nothing.
use mathlib.Core.Path.{sym, ap, ◌∙◌}
use Rattle.measure.specs.Place.{height_end}
use Rattle.galley_file.specs.Item.{valid_item}
use Rattle.galley_file.specs.CharacterLaws.{valid_parts}
use Rattle.extents.specs.Extents.{with_one_item}
use Rattle.extents.proofs.with_item.Goals as goal

pub with_character-requires : goal.with_character-requires
with_character-requires c = (valid_parts (sym (ap (valid_item height_end) c.in-Placed.is) ∙ c.requires)).font

pub returns-in-Placed : goal.returns-in-Placed
returns-in-Placed c = c.with_character.ensures ∙ sym (ap (with_one_item c.args.e) c.in-Placed.is)
