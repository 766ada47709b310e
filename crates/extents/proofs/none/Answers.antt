-- `extents::none` meets its contract.
-- Assumes nothing.
use lib.IntN.{pos}
use Rattle.extents.specs.Extents.{no_extents}
use Rattle.extents.proofs.none.Goals as goal

pub returns : goal.returns
unfolding no_extents
returns c = let f = c.none.ensures in (λ i. record { x = record { 0 = pos 0 }; height = record { 0 = pos 0 }; fonts = record { low = f.0 i; high = f.1 i } })
