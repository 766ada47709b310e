use mathlib.Core.List.{List}
use Prim.Native.Nat.{◌-◌}
use lib.ListN.{length}
use Rattle.dvi.specs.File.{PlacedMark, placed_at}
use Rattle.dvi_step.specs.Standing.{Standing}
use Rattle.dvi_galley.specs.Back.{nothing, makes}
use Rattle.dvi_back.proofs.Passes.{Tallied}
use Rattle.dvi_back.proofs.pass.Given as goal

abbrev pub invariant-loop-at : goal.invariant-loop-at
invariant-loop-at l = (ps : List PlacedMark) × (Standing placed_at l.widths l.dvi l.stack l.q l.at ps × Tallied l.writing l.initial.out l.out (makes nothing ps) l.g)

abbrev pub decreases-loop-at : goal.decreases-loop-at
decreases-loop-at l = length l.dvi - l.at
