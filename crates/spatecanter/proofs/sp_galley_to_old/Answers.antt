-- `spatecanter::sp_galley_to_old` meets its contract: it hands over the numbers of the answer.
-- Assumes nothing.
use borrow.Author.Rules.{rules}
use Rattle.octets.specs.AnswerLaws.{gives_numbers}
use Rattle.spatecanter.proofs.sp_galley_to_old.Goals as goal

pub returns : goal.returns
returns c = gives_numbers c.numbers.ensures c.galley_to_old.ensures
