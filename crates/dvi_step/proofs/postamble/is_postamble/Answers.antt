-- `dvi_step::postamble::is_postamble` meets its contract: the tests are those of `postamble`.
-- Assumes nothing.
use mathlib.Core.Path.{sym, ap, ◌∙◌}
use Prim.Native.Nat.{◌+◌}
use borrow.Author.Tests.{ne_eqb}
use native.Mathlib.Omega.{arith}
use lib.ListN.{drop, length-drop}
use mir.Syntax.{w32}
use mir.Val.{of_z}
use Rattle.integers.specs.Bits.{same_bits}
use Rattle.dvi.specs.Postamble.{at_id, definitions}
use Rattle.dvi_step.proofs.Postambles.{drop_to, postamble_short, postamble_off, postamble_on}
use Rattle.dvi_step.proofs.postamble.is_postamble.Goals as goal

pub returns-then-s-pst-lt13 : goal.returns-then-s-pst-lt13
returns-then-s-pst-lt13 c =
    let a = c.args in
    let n = length-drop (a.pst + 1) a.s.now in
    postamble_short a.last a.pst (drop (a.pst + 1) a.s.now) (omega arith)

pub returns-else-signed4_at-last : goal.returns-else-signed4_at-last
returns-else-signed4_at-last c =
    let a = c.args in
    let n = length-drop (a.pst + 1) a.s.now in
    ne_eqb _ _ c.if-signed4_at-last.false
    ∙ postamble_off a.last a.pst (drop (a.pst + 1) a.s.now) (omega arith) (λ e. c.if-signed4_at-last.false (ap (of_z w32) (c.signed4_at.ensures ∙ e)))

pub returns-then-signed4_at-last : goal.returns-then-signed4_at-last
returns-then-signed4_at-last c =
    let a = c.args in
    let s = a.s.now in
    let n = length-drop (a.pst + 1) s in
    let o = c.signed4_at in
    let e = sym o.ensures ∙ same_bits {w = w32} (record { sfits = o.type_inv }) c.ranges.last c.if-signed4_at-last.true in
    c.are_definitions.ensures
    ∙ ap (definitions a.pst at_id) (sym (drop_to s 12 (a.pst + 1) (a.pst + 13) (omega arith)))
    ∙ postamble_on a.last a.pst (drop (a.pst + 1) s) (omega arith) e
