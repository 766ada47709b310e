-- `punch_codes::setting::at_begin` meets its contract.
-- Assumes nothing.
use mathlib.Core.Path.{ap, ◌∙◌}
use Rattle.punch_codes.specs.Codes.{begun_from}
use Rattle.punch_codes.proofs.setting.at_begin.Goals as goal

pub returns : goal.returns
returns c = c.begun_from.ensures ∙ ap begun_from c.at_start.ensures
