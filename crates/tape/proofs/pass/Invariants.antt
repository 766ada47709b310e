use Prim.Native.Nat.{◌-◌}
use lib.ListN.{length}
use Rattle.tape.specs.Pass.{Going}
use Rattle.tape.proofs.pass.Given as goal

abbrev pub invariant-loop-b : goal.invariant-loop-b
invariant-loop-b l = Going l.initial.s l.at l.tape l.initial.out l.writing l.out l.s l.count l.cuts l.i

abbrev pub decreases-loop-b : goal.decreases-loop-b
decreases-loop-b l = length l.tape - l.i
