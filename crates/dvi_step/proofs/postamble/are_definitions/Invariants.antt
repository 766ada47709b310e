use mathlib.Core.Path.{◌≡◌}
use Prim.Native.Nat.{◌-◌, ◌≤◌}
use lib.ListN.{length, drop}
use Rattle.dvi.specs.Postamble.{at_id, definitions}
use Rattle.dvi_step.proofs.postamble.are_definitions.Given as goal

abbrev pub invariant-loop-j : goal.invariant-loop-j
invariant-loop-j l = (l.j ≤ length l.s) × (definitions l.pst at_id (drop l.i l.s) ≡ definitions l.pst at_id (drop l.j l.s))

abbrev pub decreases-loop-j : goal.decreases-loop-j
decreases-loop-j l = length l.s - l.j
