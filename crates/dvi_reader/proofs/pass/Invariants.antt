use mathlib.Core.List.{List}
use Prim.Native.Nat.{◌-◌}
use lib.ListN.{length}
use Rattle.sheet.specs.Sheet.{Mark}
use Rattle.dvi.specs.File.{marks_alone}
use Rattle.sheet.specs.Filled.{Filled}
use Rattle.dvi_step.specs.Standing.{Standing}
use Rattle.dvi_reader.proofs.pass.Given as goal

abbrev pub invariant-loop-at : goal.invariant-loop-at
invariant-loop-at l = (ms : List Mark) × (Standing marks_alone l.widths l.dvi l.stack l.q l.at ms × Filled l.writing l.initial.out l.out ms l.at l.to l.count)

abbrev pub decreases-loop-at : goal.decreases-loop-at
decreases-loop-at l = length l.dvi - l.at
