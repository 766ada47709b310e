use mathlib.Core.Bool.{true}
use Prim.Native.Nat.{◌-◌}
use lib.ListN.{length}
use Rattle.tape_stretch.specs.Further.{Stretched}
use Rattle.tape_stretch.proofs.write_stretch.Given as goal

abbrev pub invariant-loop-r : goal.invariant-loop-r
invariant-loop-r l = Stretched true l.tape l.initial.out l.s l.before l.cuts l.from l.r l.out

abbrev pub decreases-loop-r : goal.decreases-loop-r
decreases-loop-r l = length l.tape - l.r.next
