-- `spatecanter::sp_check_galley` meets its contract: it hands over the numbers of the answer.
-- Assumes nothing.
use mathlib.Core.Path.{ap, ◌∙◌}
use borrow.Author.Rules.{rules}
use Rattle.octets.specs.Answer.{numbers_of}
use Rattle.spatecanter.proofs.sp_check_galley.Goals as goal

pub returns : goal.returns
returns c = c.numbers.ensures ∙ ap numbers_of c.check_galley.ensures
