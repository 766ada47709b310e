-- `spatecanter_running::words::units_word` meets its contract.
-- Assumes nothing.
use borrow.Author.Rules.{rules}
use mir.Syntax.{w32}
use mir.Val.{SFits}
use Rattle.integers.specs.Bits.{plain}
use Rattle.spatecanter_running.proofs.words.units_word.Goals as goal

pub returns : goal.returns
returns c =
    let f : SFits w32 c.args.x.0 = search rules in
    rw (plain f) at c.word_of.ensures
