-- `dvi2_turn::tally::Tally::none` meets its contract: nothing is read yet.
-- Assumes nothing.
use mathlib.Core.Path.{refl}
use Rattle.dvi2_turn.proofs.Tallies.{tally_none}
use Rattle.dvi2_turn.proofs.tally.Tally.none.Goals as goal

pub returns : goal.returns
returns c = tally_none _ refl refl c.none.ensures refl
