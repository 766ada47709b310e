-- `spatecanter_running::words::number_word` meets its contract.
-- Assumes nothing.
use mathlib.Core.Path.{sym, ap, ◌∙◌}
use Rattle.spatecanter_running.specs.Words.{number_word}
use Rattle.spatecanter_running.proofs.words.number_word.Goals as goal

pub returns-in-Failed : goal.returns-in-Failed
returns-in-Failed c = let e = sym (ap number_word c.in-Failed.is) in (c.byte_word.ensures.0 ∙ e, c.byte_word.ensures.1 ∙ e)
