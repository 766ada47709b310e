use Rattle.dvi_writer.proofs.Passes.{Measured}
use Rattle.dvi_writer.proofs.plan.Plan.of.Given as goal

abbrev pub invariant-loop-item : goal.invariant-loop-item
invariant-loop-item l = Measured l.yielded l.p l.last
