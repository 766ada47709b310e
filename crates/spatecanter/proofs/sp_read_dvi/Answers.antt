-- `spatecanter::sp_read_dvi` meets its contract: it hands over the numbers of the answer.
-- Assumes nothing.
use borrow.Author.Rules.{rules}
use Rattle.octets.specs.AnswerLaws.{gives_numbers}
use Rattle.spatecanter.proofs.sp_read_dvi.Goals as goal

pub returns : goal.returns
returns c = gives_numbers c.numbers.ensures c.read_dvi.ensures
