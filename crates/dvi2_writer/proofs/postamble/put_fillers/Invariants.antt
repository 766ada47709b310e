use Prim.Native.Nat.{◌-◌}
use Rattle.dvi2_writer.proofs.Postambles.{Filled}
use Rattle.dvi2_writer.proofs.postamble.put_fillers.Given as goal

abbrev pub invariant-loop-to : goal.invariant-loop-to
invariant-loop-to l = Filled l.initial.out l.at l.end l.out l.to

abbrev pub decreases-loop-to : goal.decreases-loop-to
decreases-loop-to l = l.end - l.to
