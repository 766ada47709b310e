-- `spatecanter_running::sp_feed` meets its contract: the words hold the running tape before, and after.
-- Assumes nothing.
use Rattle.running.specs.declared.Running.{Running}
use Rattle.running.specs.Running.{feed_of}
use Rattle.spatecanter_running.specs.WordsLaws.{leaves_words}
use Rattle.spatecanter_running.proofs.sp_feed.Goals as goal

pub returns : goal.returns
returns c =
    let a = c.args in
    leaves_words (λ (r : Running). feed_of r a.piece.now) c.tape_in.ensures c.numbers.ensures c.words_of.ensures c.fed-reply.ensures
