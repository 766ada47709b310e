-- `spatecanter_plain::sp_read_dvi_plain` meets its contract: it hands over the numbers of the answer.
-- Assumes nothing.
use borrow.Author.Rules.{rules}
use Rattle.octets.specs.AnswerLaws.{gives_numbers}
use Rattle.spatecanter_plain.proofs.sp_read_dvi_plain.Goals as goal

pub returns : goal.returns
returns c = gives_numbers c.numbers.ensures c.read_dvi_plain.ensures
