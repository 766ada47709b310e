use Prim.Native.Nat.{◌-◌}
use lib.ListN.{length}
use Rattle.dvi2_reader.proofs.Passes.{Going}
use Rattle.dvi2_reader.proofs.pass.Given as goal

abbrev pub invariant-loop-at : goal.invariant-loop-at
invariant-loop-at l = Going l.dvi l.initial.out l.at l.h l.t l.to l.out

abbrev pub decreases-loop-at : goal.decreases-loop-at
decreases-loop-at l = length l.dvi - l.at
