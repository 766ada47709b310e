-- `xgp_code::escape` meets its contract: the arms are the rows of the table.
-- Assumes nothing.
use Rattle.std.proofs.Common.{ap}
use Rattle.xgp_code.specs.Code.{operations, escaped, one_more}
use Rattle.octets.specs.AnswerLaws.{handed_on}
use Rattle.xgp_code.proofs.escape.Goals as goal

pub returns-in_err-code-in-1 : goal.returns-in_err-code-in-1
unfolding escaped one_more
returns-in_err-code-in-1 c =
    rw c.in-1.is (handed_on c.from_residual.ensures.1 (ap one_more (c.in_err-code-in-1.ensures.decides operations)))
