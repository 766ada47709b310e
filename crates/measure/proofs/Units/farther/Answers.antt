-- `measure::Units::farther` meets its contract: `max` chooses by the numbers.
-- Assumes nothing.
use Rattle.std.proofs.Common.{ap, ◌∙◌}
use Rattle.measure.specs.declared.Units.{Units}
use Rattle.measure.proofs.Max.{max_number}
use Rattle.measure.proofs.Units.farther.Goals as goal

pub returns : goal.returns
returns c = ap (λ (u : Units). u.0) c.max.ensures ∙ max_number (λ (u : Units). u.0) c.args.self c.args.other
