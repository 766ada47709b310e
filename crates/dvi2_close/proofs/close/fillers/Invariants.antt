use Prim.Native.Nat.{◌≤◌}
use lib.ListN.{length}
use Rattle.dvi2_close.proofs.Closes.{Filling}
use Rattle.dvi2_close.proofs.close.fillers.Given as goal

abbrev pub invariant-loop : goal.invariant-loop
invariant-loop l = (l.to ≤ length l.dvi) × Filling l.dvi l.at l.end l.counter l.to
