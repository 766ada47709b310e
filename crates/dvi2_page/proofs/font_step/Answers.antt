-- `dvi2_page::font_step` meets its contract: each font command's own, and refused between them.
-- Assumes nothing.
use native.Mathlib.Omega.{arith}
use Rattle.dvi2_page.proofs.Steps.{s_middle, s_high}
use Rattle.dvi2_page.proofs.font_step.Goals as goal

pub returns-then-op-lt-FNTNUM0 : goal.returns-then-op-lt-FNTNUM0
returns-then-op-lt-FNTNUM0 c =
    let a = c.args in
    λ is l k. s_middle a.s.now a.at a.h is c.requires.0.1 c.if-op-lt-FNTNUM0.true

pub returns : goal.returns
returns c =
    let a = c.args in
    λ is l k. s_high a.s.now a.at a.h is (omega (arith, c.if-op-lt-FNT1.false, c.if-op.false)) c.if-op-2.false
