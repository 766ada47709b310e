-- `xgp_code::decode` meets its contract: its tests and arms are the rows of the table.
-- Assumes nothing.
use Rattle.xgp_code.specs.Code.{escaped, usual, of_seven_bits, decode}
use Rattle.octets.specs.AnswerLaws.{handed_on}
use Rattle.xgp_code.proofs.decode.Goals as goal

pub returns-in_err-second-in-127 : goal.returns-in_err-second-in-127
unfolding usual of_seven_bits decode
returns-in_err-second-in-127 c =
    rw c.in-127.is (handed_on c.from_residual.ensures.1 (c.in_err-second-in-127.ensures.decides escaped))
