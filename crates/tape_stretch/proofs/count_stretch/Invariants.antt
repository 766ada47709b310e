use Prim.Native.Nat.{◌-◌, ◌≤◌}
use lib.ListN.{length}
use Rattle.tape_stretch.specs.Stretch.{stretch_at, Strides}
use Rattle.tape_stretch.proofs.count_stretch.Given as goal

abbrev pub invariant-loop-r : goal.invariant-loop-r
invariant-loop-r l = Strides l.tape l.s l.d.font (stretch_at l.s l.from l.before) l.r × (l.r.count ≤ l.r.next)

abbrev pub decreases-loop-r : goal.decreases-loop-r
decreases-loop-r l = length l.tape - l.r.next
