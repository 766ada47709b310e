-- `dvi_step::after_effect` meets its contract: a step for each effect.
-- Assumes nothing.
use mathlib.Core.Path.{sym, ap, ◌∙◌}
use mathlib.Core.List.{[], ◌∷◌}
use lib.IntN.{ℤ}
use Rattle.integers.specs.Bits.{plain}
use Rattle.dvi.specs.File.{between, inside, go_on, after_effect}
use Rattle.dvi.specs.Mark.{mark_of}
use Rattle.dvi_page.specs.Page.{page_of, effect_of}
use Rattle.dvi_page.specs.declared.page.Effect.{Effect}
use Rattle.dvi_step.proofs.after_effect.Goals as goal

pub returns-in-Fault : goal.returns-in-Fault
unfolding after_effect
returns-in-Fault c l =
    let a = c.args in
    ap (λ (x : Effect). after_effect a.last a.n (effect_of x l)) (sym c.in-Fault.is)

pub returns-in-Moved : goal.returns-in-Moved
unfolding after_effect
returns-in-Moved c l =
    let a = c.args in
    ap (λ (z : ℤ). go_on (inside z (page_of c.in-Moved.p l)) [] a.n) (plain c.ranges.last)
    ∙ ap (λ (x : Effect). after_effect a.last a.n (effect_of x l)) (sym c.in-Moved.is)

pub returns-in-Marked : goal.returns-in-Marked
unfolding after_effect
returns-in-Marked c l =
    let a = c.args in
    ap (λ (z : ℤ). go_on (inside z (page_of c.in-Marked.p l)) (mark_of c.in-Marked.m ∷ []) a.n) (plain c.ranges.last)
    ∙ ap (λ (x : Effect). after_effect a.last a.n (effect_of x l)) (sym c.in-Marked.is)

pub returns-in-Ended : goal.returns-in-Ended
unfolding after_effect
returns-in-Ended c l =
    let a = c.args in
    ap (λ (z : ℤ). go_on (between z) [] a.n) (plain c.ranges.last)
    ∙ ap (λ (x : Effect). after_effect a.last a.n (effect_of x l)) (sym c.in-Ended.is)
