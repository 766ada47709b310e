-- `dvi2_page::move_step` meets its contract: each move's own, and refused between them.
-- Assumes nothing.
use native.Mathlib.Omega.{arith}
use Rattle.dvi2_page.proofs.Steps.{s_low, s_gap}
use Rattle.dvi2_page.proofs.move_step.Goals as goal

pub returns-then-op-lt-RIGHT1 : goal.returns-then-op-lt-RIGHT1
returns-then-op-lt-RIGHT1 c =
    let a = c.args in
    λ is l. s_low a.s.now a.at a.h is c.requires.0.1.0 c.if-op.false c.if-op-lt-RIGHT1.true

pub returns-then-op-lt-DOWN1 : goal.returns-then-op-lt-DOWN1
returns-then-op-lt-DOWN1 c =
    let a = c.args in
    λ is l. s_gap a.s.now a.at a.h is (omega (arith, c.if-op-le-RIGHT4.false)) c.if-op-lt-DOWN1.true
