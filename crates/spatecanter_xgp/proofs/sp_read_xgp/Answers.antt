-- `spatecanter_xgp::sp_read_xgp` meets its contract: it hands over the numbers of the answer.
-- Assumes nothing.
use Rattle.octets.specs.AnswerLaws.{gives_numbers}
use Rattle.spatecanter_xgp.proofs.sp_read_xgp.Goals as goal

pub returns : goal.returns
returns c = gives_numbers c.numbers.ensures c.read_xgp.ensures
