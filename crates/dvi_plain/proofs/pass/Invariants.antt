use mathlib.Core.List.{List}
use Prim.Native.Nat.{◌-◌}
use lib.ListN.{length}
use Rattle.sheet.specs.Sheet.{Mark}
use Rattle.dvi_plain.proofs.Paging.{Paged}
use Rattle.dvi_plain.proofs.pass.Given as goal

abbrev pub invariant-loop-at : goal.invariant-loop-at
invariant-loop-at l = (ms : List Mark) × Paged l.widths l.dvi l.writing l.initial.out l.last l.at ms l.out l.to l.count

abbrev pub decreases-loop-at : goal.decreases-loop-at
decreases-loop-at l = length l.dvi - l.at
