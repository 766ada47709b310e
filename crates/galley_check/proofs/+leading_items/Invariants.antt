-- The cycle of calls {leading_items}: the measure is the room that is left.
use Rattle.galley_check.proofs.+leading_items.Given as goal

abbrev pub decreases-leading_items : goal.decreases-leading_items
decreases-leading_items l = l.room
