-- `spatecanter_running::sp_close` meets its contract: the words hold the running tape before, and after.
-- Assumes nothing.
use Rattle.running.specs.Running.{close_of}
use Rattle.spatecanter_running.specs.WordsLaws.{leaves_words}
use Rattle.spatecanter_running.proofs.sp_close.Goals as goal

pub returns : goal.returns
returns c =
    leaves_words (close_of) c.tape_in.ensures c.numbers.ensures c.words_of.ensures c.closed-reply.ensures
