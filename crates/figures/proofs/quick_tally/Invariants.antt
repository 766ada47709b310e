use Rattle.std.proofs.Common.{◌-◌, length}
use Rattle.tape_stretch.specs.Stretch.{DerivedFrom}
use Rattle.figures.specs.Counting.{CountsOn}
use Rattle.figures.proofs.quick_tally.Given as goal

abbrev pub invariant-loop-b : goal.invariant-loop-b
invariant-loop-b l = CountsOn l.tape l.initial.fonts l.initial.s l.initial.lead.forward l.initial.lead.backward l.from l.fonts l.s l.lead.forward l.lead.backward l.i × DerivedFrom l.s l.d

abbrev pub decreases-loop-b : goal.decreases-loop-b
decreases-loop-b l = length l.tape - l.i
