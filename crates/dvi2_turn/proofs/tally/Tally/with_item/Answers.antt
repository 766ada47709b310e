-- `dvi2_turn::tally::Tally::with_item` meets its contract: by the kinds of item.
-- Assumes nothing.
use mathlib.Core.Path.{refl}
use Rattle.dvi2_turn.proofs.Tallies.{tally_placed, tally_ended}
use Rattle.dvi2_turn.proofs.tally.Tally.with_item.Goals as goal

pub returns-in-Placed : goal.returns-in-Placed
returns-in-Placed c = λ is k p. tally_placed _ _ is k _ c.with_item-extents.ensures _ c.in-Placed.is refl refl refl

pub returns-in-Cut : goal.returns-in-Cut
returns-in-Cut c = λ is k p. tally_ended _ _ is k _ c.with_item-extents.ensures _ c.in-Cut.is refl refl refl p
