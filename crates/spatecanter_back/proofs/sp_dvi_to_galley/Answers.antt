-- `spatecanter_back::sp_dvi_to_galley` meets its contract: it hands over the numbers of the answer.
-- Assumes nothing.
use borrow.Author.Rules.{rules}
use Rattle.octets.specs.AnswerLaws.{gives_numbers}
use Rattle.spatecanter_back.proofs.sp_dvi_to_galley.Goals as goal

pub returns : goal.returns
returns c = gives_numbers c.numbers.ensures c.dvi_to_galley.ensures
