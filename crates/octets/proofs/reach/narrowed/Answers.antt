-- `octets::reach::narrowed` meets its contract: the conversion is that of the definition.
-- Assumes nothing.
use Rattle.std.proofs.Common.{ap, ◌∙◌}
use Rattle.integers.specs.Bits.{plain}
use Rattle.octets.specs.Reach.{reach}
use Rattle.octets.proofs.Sums.{converted}
use Rattle.octets.proofs.reach.narrowed.Goals as goal

pub returns : goal.returns
returns c = c.ok.ensures.value ∙ converted c.try_from.result _ c.try_from.ensures ∙ ap reach (plain c.ranges.t)
