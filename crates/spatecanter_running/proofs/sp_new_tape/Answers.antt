-- `spatecanter_running::sp_new_tape` meets its contract: the words of a new tape.
-- Assumes nothing.
use mathlib.Core.Path.{subst}
use Rattle.spatecanter_running.specs.Words.{Holds}
use Rattle.spatecanter_running.proofs.sp_new_tape.Goals as goal

pub returns : goal.returns
returns c = subst (Holds _) c.new.ensures c.words_of.ensures
