-- `dvi_step::step` meets its contract: by the state.
-- Assumes nothing.
use mathlib.Core.Path.{sym, ap, ◌∙◌, subst}
use Prim.Native.Nat.{◌+◌, ◌≤◌}
use borrow.Author.Rules.{rules}
use lib.IntN.{ℤ}
use lib.ListN.{get_or, drop}
use mir.Syntax.{w32}
use Rattle.integers.specs.Bits.{plain}
use Rattle.dvi.specs.Page.{max_stack}
use Rattle.dvi.specs.File.{between, inside, step}
use Rattle.dvi_page.specs.Page.{page_of}
use Rattle.dvi_step.specs.Step.{state_of, depth_of}
use Rattle.dvi_step.specs.declared.State.{State}
use Rattle.dvi_step.proofs.step.Goals as goal

pub in_page-requires : goal.in_page-requires
in_page-requires c =
    (c.requires.0, subst (λ (k : State). depth_of k ≤ max_stack) c.in-Inside.is c.requires.1.1)

pub returns-in-Between : goal.returns-in-Between
returns-in-Between c =
    let a = c.args in
    let ws = a.widths.now in
    let l = a.entries.now in
    let op = get_or a.dvi.now a.at 0 in
    let ps = drop (a.at + 1) a.dvi.now in
    c.between_pages.ensures ws l
    ∙ ap (λ (z : ℤ). step ws a.at (between z) op ps) (plain {w = w32} {z = c.in-Between.last} (search rules))
    ∙ ap (λ (k : State). step ws a.at (state_of k l) op ps) (sym c.in-Between.is)

pub returns-in-Inside : goal.returns-in-Inside
returns-in-Inside c =
    let a = c.args in
    let ws = a.widths.now in
    let l = a.entries.now in
    let op = get_or a.dvi.now a.at 0 in
    let ps = drop (a.at + 1) a.dvi.now in
    c.in_page.ensures
    ∙ ap (λ (z : ℤ). step ws a.at (inside z (page_of c.in-Inside.p l)) op ps) (plain {w = w32} {z = c.in-Inside.last} (search rules))
    ∙ ap (λ (k : State). step ws a.at (state_of k l) op ps) (sym c.in-Inside.is)
