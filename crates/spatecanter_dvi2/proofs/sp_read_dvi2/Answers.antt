-- `spatecanter_dvi2::sp_read_dvi2` meets its contract: it hands over the numbers of the answer.
-- Assumes nothing.
use borrow.Author.Rules.{rules}
use Rattle.octets.specs.AnswerLaws.{gives_numbers}
use Rattle.spatecanter_dvi2.proofs.sp_read_dvi2.Goals as goal

pub returns : goal.returns
returns c = gives_numbers c.numbers.ensures c.read_dvi2.ensures
