-- `punch_codes::setting::state_after` meets its contract: each arm is given which item it is.
-- Assumes nothing.
use mathlib.Core.Path.{sym, ap, ◌∙◌}
use Rattle.measure.specs.Place.{height_end}
use Rattle.galley_file.specs.Item.{valid_item}
use Rattle.punch_codes.specs.Codes.{state_after}
use Rattle.punch_codes.proofs.setting.state_after.Goals as goal

pub set_for-requires : goal.set_for-requires
set_for-requires c = sym (ap (valid_item height_end) c.in-Placed.is) ∙ c.requires

pub returns-in-Placed : goal.returns-in-Placed
unfolding state_after
returns-in-Placed c = c.set_for.ensures ∙ ap (state_after c.args.s) (sym c.in-Placed.is)

pub returns-in-Cut : goal.returns-in-Cut
unfolding state_after
returns-in-Cut c = c.begun_from.ensures ∙ ap (state_after c.args.s) (sym c.in-Cut.is)
