-- `dvi2_close::close::definitions` meets its contract: the fonts below f are defined.
-- Assumes nothing.
use mathlib.Core.Path.{sym, subst}
use native.Mathlib.Omega.{arith}
use lib.ListN.{length}
use Rattle.dvi2_close.specs.Reading.{Inside, PastDefinitions}
use Rattle.dvi2_close.proofs.Expected.{handed_on}
use Rattle.dvi2_close.proofs.Closes.{defined_start, defined_next, defined_fault, defined_inside, defined_end}
use Rattle.dvi2_close.proofs.close.definitions.Goals as goal

pub loop-f-init : goal.loop-f-init
loop-f-init c = (c.requires, defined_start _ _ _ _)

pub marked-requires : goal.marked-requires
marked-requires c = (c.loop-f.invariant.0, c.loop-f-test.true)

pub returns-in_err-to : goal.returns-in_err-to
returns-in_err-to c =
    let s = c.args.dvi.now in
    subst (λ r. Inside (length s) r × PastDefinitions s c.args.at c.args.used r) (sym (handed_on _ c.from_residual.ensures.1))
    (tt, defined_fault _ _ _ _ _ _ c.loop-f.invariant.1 c.loop-f-test.true _ c.marked.ensures _ c.in_err-to.was)

pub loop-f-preserved : goal.loop-f-preserved
loop-f-preserved c =
    let i = c.loop-f.invariant in
    let l = c.loop-f-test.true in
    let q = c.marked.ensures in
    let h = c.in_ok-to.was in
    (defined_inside _ _ _ _ _ _ i.1 l _ q _ i.0 h, defined_next _ _ _ _ _ _ i.1 l _ q _ h)

pub returns : goal.returns
returns c =
    let i = c.loop-f.invariant in
    (i.0, defined_end _ _ _ _ _ _ i.1 (omega (arith, c.loop-f-test.false, c.loop-f.auto.f-end)))
