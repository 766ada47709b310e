-- `dvi_writer::plan::item_length` meets its contract, by the kinds of item.
-- Assumes nothing.
use mathlib.Core.Path.{sym, ap, ◌∙◌}
use Rattle.measure.specs.Place.{low_end}
use Rattle.galley_file.specs.Item.{valid_item}
use Rattle.dvi_characters.specs.Position.{position_of}
use Rattle.dvi_writer.specs.Plan.{item_length}
use Rattle.dvi_characters.specs.PositionLaws.{position_kind}
use Rattle.dvi_writer.proofs.plan.item_length.Goals as goal

pub commands_length-requires : goal.commands_length-requires
commands_length-requires c =
    let e = c.in-Placed.is in
    (c.requires.1.0, record { is_valid = sym (ap (valid_item low_end) e) ∙ c.requires.0; position_is = (position_kind _ e c.requires.1.1).position_is })

pub returns-in-Placed : goal.returns-in-Placed
returns-in-Placed c =
    let a = c.args in
    (c.commands_length.ensures.0 ∙ sym (ap (item_length (position_of a.last)) c.in-Placed.is), c.commands_length.ensures.1)
