use Rattle.punch.proofs.Passes.{Punching}
use Rattle.punch.proofs.put_items.Given as goal

abbrev pub invariant-loop-i : goal.invariant-loop-i
invariant-loop-i l = Punching l.writing l.initial.out l.out l.next l.s l.yielded
