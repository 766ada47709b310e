use Prim.Native.Nat.{◌-◌}
use lib.ListN.{length}
use Rattle.tape_stretch.specs.Stretch.{DerivedFrom}
use Rattle.tape_stretch.specs.Further.{Further}
use Rattle.tape_quick.proofs.quick_run.Given as goal

abbrev pub invariant-loop-b : goal.invariant-loop-b
invariant-loop-b l = Further l.writing l.tape l.initial.out l.initial.s l.before l.cuts l.from l.s l.count l.i l.out × DerivedFrom l.s l.d

abbrev pub decreases-loop-b : goal.decreases-loop-b
decreases-loop-b l = length l.tape - l.i
