-- `measure::target_table::targets` meets its contract: the 3,295 entries are those that the definition computes, one after the other.
-- Assumes nothing.
use mathlib.Core.Path.{refl}
use Rattle.measure.specs.Target.{x_target, x_targets}
use Rattle.measure.proofs.target_table.targets.Goals as goal

pub returns : goal.returns
unfolding x_target x_targets
returns c = refl
