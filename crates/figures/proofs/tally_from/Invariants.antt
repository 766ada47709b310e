use Rattle.std.proofs.Common.{◌≡◌, ◌-◌, length}
use Rattle.figures.specs.Counting.{Counting, count_in}
use Rattle.figures.proofs.tally_from.Given as goal

abbrev pub invariant-loop-b : goal.invariant-loop-b
invariant-loop-b l = Counting l.initial.s l.tape l.s (count_in l.fonts) l.lead.forward l.lead.backward l.i × (length l.fonts ≡ 120)

abbrev pub decreases-loop-b : goal.decreases-loop-b
decreases-loop-b l = length l.tape - l.i
