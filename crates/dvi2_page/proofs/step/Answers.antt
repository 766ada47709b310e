-- `dvi2_page::step` meets its contract: eop by itself, nothing else after the last item, and then by the kind of command.
-- Assumes nothing.
use mathlib.Core.Path.{sym, ◌∙◌}
use native.Mathlib.Omega.{arith}
use Rattle.dvi2_page.proofs.Steps.{s_end, s_early, s_full}
use Rattle.dvi2_page.proofs.step.Goals as goal

pub returns-then-is_ready : goal.returns-then-is_ready
returns-then-is_ready c =
    let a = c.args in
    λ is l k. s_end a.s.now a.at a.h is c.if-op.true (sym c.is_ready.ensures ∙ c.if-is_ready.true)

pub returns-else-is_ready : goal.returns-else-is_ready
returns-else-is_ready c =
    let a = c.args in
    λ is l k. s_early a.s.now a.at a.h is c.if-op.true (sym c.is_ready.ensures ∙ c.if-is_ready.false)

pub returns-then-count-ge-MAX_ITEMS : goal.returns-then-count-ge-MAX_ITEMS
returns-then-count-ge-MAX_ITEMS c =
    let a = c.args in
    λ is l k. s_full a.s.now a.at a.h is c.if-op.false (omega (arith, c.if-count-ge-MAX_ITEMS.true, l))

pub returns-then-op-le-DOWN4 : goal.returns-then-op-le-DOWN4
returns-then-op-le-DOWN4 c = λ is l k. c.move_step.ensures is (omega (arith, c.if-count-ge-MAX_ITEMS.false, l))

pub returns : goal.returns
returns c = λ is l k. c.font_step.ensures is (omega (arith, c.if-count-ge-MAX_ITEMS.false, l)) k
