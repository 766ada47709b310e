use Rattle.dvi_writer.proofs.Passes.{Printed}
use Rattle.dvi_writer.proofs.page.put_items.Given as goal

abbrev pub invariant-loop-item : goal.invariant-loop-item
invariant-loop-item l = Printed l.yielded l.initial.out l.out l.p
