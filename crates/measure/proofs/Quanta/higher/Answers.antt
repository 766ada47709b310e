-- `measure::Quanta::higher` meets its contract: `max` chooses by the numbers.
-- Assumes nothing.
use Rattle.std.proofs.Common.{ap, ◌∙◌}
use Rattle.measure.specs.declared.Quanta.{Quanta}
use Rattle.measure.proofs.Max.{max_number}
use Rattle.measure.proofs.Quanta.higher.Goals as goal

pub returns : goal.returns
returns c = ap (λ (u : Quanta). u.0) c.max.ensures ∙ max_number (λ (u : Quanta). u.0) c.args.self c.args.other
