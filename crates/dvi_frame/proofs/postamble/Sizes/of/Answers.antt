-- `dvi_frame::postamble::Sizes::of` meets its contract: the extents are in the table's range.
-- Assumes nothing.
use Rattle.integers.specs.Parts.{integers}
use Rattle.dvi_frame.proofs.postamble.Sizes.of.Goals as goal

pub target-requires : goal.target-requires
target-requires c = let h = c.requires in record { negsuc_bound = (omega (integers, h.x_least), h.x_most); targets_value = c.targets-targets.ensures }
