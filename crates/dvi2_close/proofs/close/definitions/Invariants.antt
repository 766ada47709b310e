use Prim.Native.Nat.{◌≤◌}
use lib.ListN.{length}
use Rattle.dvi2_close.proofs.Closes.{Defined}
use Rattle.dvi2_close.proofs.close.definitions.Given as goal

abbrev pub invariant-loop-f : goal.invariant-loop-f
invariant-loop-f l = (l.to ≤ length l.dvi) × Defined l.dvi l.at l.used.low l.used.high l.f l.to
