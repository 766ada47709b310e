-- `dvi_step::between_pages` meets its contract: BOP, PST and nothing else.
-- Assumes nothing.
use native.Mathlib.Omega.{arith}
use mathlib.Core.Path.{sym, ap, ◌∙◌}
use Prim.Native.Nat.{ℕ, ◌+◌}
use lib.IntN.{ℤ}
use lib.ListN.{get_or, drop}
use Rattle.integers.specs.Bits.{plain}
use Rattle.dvi.specs.Command.{PST}
use Rattle.dvi.specs.File.{between, begin_page, step}
use Rattle.dvi_step.proofs.Steps.{neither}
use Rattle.dvi_step.proofs.between_pages.Goals as goal

pub returns-in-129 : goal.returns-in-129
unfolding step
returns-in-129 c ws l =
    let a = c.args in
    let ps = drop (a.at + 1) a.dvi.now in
    c.begin_page.ensures l
    ∙ ap (λ (z : ℤ). begin_page z a.at ps) (plain c.ranges.last)
    ∙ ap (λ (o : ℕ). step ws a.at (between a.last) o ps) (sym c.in-129.is)

pub returns-in-131 : goal.returns-in-131
returns-in-131 c ws l =
    let a = c.args in
    let ps = drop (a.at + 1) a.dvi.now in
    c.end_file.ensures ws l
    ∙ ap (λ (z : ℤ). step ws a.at (between z) PST ps) (plain c.ranges.last)
    ∙ ap (λ (o : ℕ). step ws a.at (between a.last) o ps) (sym c.in-131.is)

pub returns-in_default : goal.returns-in_default
returns-in_default c ws l =
    let a = c.args in
    neither ws a.last a.at (drop (a.at + 1) a.dvi.now) (get_or a.dvi.now a.at 0) (omega arith) (omega arith)
