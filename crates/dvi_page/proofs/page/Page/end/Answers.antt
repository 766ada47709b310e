-- `dvi_page::page::Page::end` meets its contract: no entry is left where the depth is 0.
-- Assumes nothing.
use mathlib.Core.Path.{sym, ap}
use Prim.Native.Nat.{ℕ}
use native.Mathlib.Omega.{arith}
use Rattle.dvi.specs.Page.{end_page}
use Rattle.dvi_page.specs.Stack.{stack_of}
use Rattle.dvi_page.proofs.Stacks.{stack_top}
use Rattle.dvi_page.proofs.page.Page.end.Goals as goal

pub returns-then-self-eq0 : goal.returns-then-self-eq0
unfolding end_page stack_of
returns-then-self-eq0 c l = ap (λ (d : ℕ). end_page (stack_of l d)) (sym c.if-self-eq0.true)

pub returns-else-self-eq0 : goal.returns-else-self-eq0
unfolding end_page
returns-else-self-eq0 c l = ap end_page (sym (stack_top l c.args.self.depth (omega (arith, c.if-self-eq0.false))))
