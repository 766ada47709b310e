-- `spatecanter_punch::sp_punch_tape` meets its contract: it hands over the numbers of the answer.
-- Assumes nothing.
use Rattle.spatecanter_punch.proofs.sp_punch_tape.Goals as goal

pub returns : goal.returns
returns c = record { given = _; numbers_are = c.numbers.ensures; punches = c.punch_tape.ensures }
