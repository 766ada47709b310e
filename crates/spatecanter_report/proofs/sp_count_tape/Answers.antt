-- `spatecanter_report::sp_count_tape` meets its contract: it hands over the numbers of the answer.
-- Assumes nothing.
use mathlib.Core.Path.{ap, ◌∙◌}
use Rattle.octets.specs.Answer.{numbers_of}
use Rattle.spatecanter_report.proofs.sp_count_tape.Goals as goal

pub returns : goal.returns
returns c = let r = c.count_tape.ensures in (c.numbers.ensures ∙ ap numbers_of r.0, r.1)
