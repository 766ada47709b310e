-- `dvi_page::page::Page::pop` meets its contract: the top entry's numbers, and the font as it was.
-- Assumes nothing.
use mathlib.Core.Path.{sym, ap, ◌∙◌}
use Prim.Native.Nat.{ℕ}
use native.Mathlib.Omega.{arith}
use Rattle.dvi.specs.Page.{Page, popped, with_numbers}
use Rattle.dvi_page.specs.Stack.{stack_of}
use Rattle.dvi_page.specs.Page.{page_of}
use Rattle.dvi_page.proofs.Stacks.{stack_top, pop_one}
use Rattle.dvi_page.proofs.page.Page.pop.Goals as goal

pub returns-then-self-eq0 : goal.returns-then-self-eq0
unfolding popped stack_of
returns-then-self-eq0 c =
    let a = c.args in
    ap (λ (d : ℕ). popped (page_of a.self a.entries.now) (stack_of a.entries.now d)) (sym c.if-self-eq0.true)

pub returns : goal.returns
unfolding popped with_numbers
returns c =
    let a = c.args in
    let l = a.entries.now in
    pop_one (page_of a.self l) (stack_top l a.self.depth (omega (arith, c.if-self-eq0.false)))
    (ap (λ (q : Page). q.numbers) (c.with_numbers-page.ensures l) ∙ c.entry.ensures)
    (ap (λ (q : Page). q.font) (c.with_numbers-page.ensures l))
