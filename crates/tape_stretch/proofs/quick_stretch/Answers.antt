-- `tape_stretch::quick_stretch` meets its contract: where nothing is written, the trace of the count is such a run.
-- Assumes nothing.
use mathlib.Core.Path.{sym, subst}
use mathlib.Core.Bool.{Bool}
use Rattle.tape_stretch.specs.Further.{Stretched}
use Rattle.tape_stretch.specs.FurtherLaws.{further_strides}
use Rattle.tape_stretch.proofs.quick_stretch.Goals as goal

pub returns-else-writing : goal.returns-else-writing
returns-else-writing c =
    let a = c.args in
    let n = c.count_stretch in
    subst (λ (t : Bool). Stretched t a.tape.now a.out.now a.s a.before a.cuts a.from n.result a.out.now) (sym c.if-writing.false) (further_strides n.ensures)
