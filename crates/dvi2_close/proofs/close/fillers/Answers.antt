-- `dvi2_close::close::fillers` meets its contract: of the bytes, as many as the counter says stand before `to`.
-- Assumes nothing.
use mathlib.Core.Path.{refl, sym, subst, ◌∙◌}
use native.Mathlib.Omega.{arith}
use lib.ListN.{length}
use Rattle.dvi2.specs.Writer as W
use Rattle.dvi2_close.specs.Reading.{Inside, PastFillers}
use Rattle.dvi2_close.proofs.Expected.{expect_inside, inside_to, handed_on}
use Rattle.dvi2_close.proofs.Closes.{filling_start, filling_next, filling_fault, filling_end}
use Rattle.dvi2_close.proofs.close.fillers.Goals as goal

pub loop-init : goal.loop-init
unfolding W.fillers
loop-init c = (c.requires.0, filling_start _ _ _ refl)

pub expect-requires : goal.expect-requires
expect-requires c = (c.loop.invariant.0, omega arith)

pub returns-in_err-to : goal.returns-in_err-to
returns-in_err-to c =
    let s = c.args.dvi.now in
    subst (λ r. Inside (length s) r × PastFillers s c.args.at r) (sym (handed_on _ c.from_residual.ensures.1))
    (tt, filling_fault _ _ _ _ _ c.loop.invariant.1 c.loop-test.true _ c.expect.ensures _ c.in_err-to.was)

pub loop-preserved : goal.loop-preserved
loop-preserved c =
    let i = c.loop.invariant in
    let q = c.expect.ensures in
    let h = c.in_ok-to.was in
    (inside_to (sym q ∙ h) (expect_inside _ _ _ i.0), filling_next _ _ _ _ _ i.1 c.loop-test.true _ q _ h)

pub returns : goal.returns
returns c =
    let i = c.loop.invariant in
    (i.0, filling_end _ _ _ _ _ i.1 (omega (arith, c.loop-test.false)))
