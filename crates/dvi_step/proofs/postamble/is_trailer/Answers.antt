-- `dvi_step::postamble::is_trailer` meets its contract: the tests are those of `trailer`.
-- Assumes nothing.
use mathlib.Core.Path.{sym, ap, ◌∙◌}
use Prim.Native.Nat.{◌+◌}
use borrow.Author.Tests.{eqb-true, eqb-false}
use native.Mathlib.Omega.{arith}
use lib.ListN.{drop, get_or, length-drop}
use lib.Seq.{drop-drop, get_or-drop}
use mir.Syntax.{w32}
use mir.Val.{of_z}
use Rattle.integers.specs.Bits.{same_bits}
use Rattle.dvi.specs.Postamble.{all223}
use Rattle.dvi_step.proofs.Postambles.{trailer_short, trailer_off, trailer_byte, trailer_fill}
use Rattle.dvi_step.proofs.postamble.is_trailer.Goals as goal
use Rattle.dvi_step.proofs.postamble.is_trailer.Goals.{then-signed4_at-pst, else-signed4_at-pst}

pub returns-then-s-i-lt9 : goal.returns-then-s-i-lt9
returns-then-s-i-lt9 c =
    let a = c.args in
    let n = length-drop a.i a.s.now in
    trailer_short a.pst (drop a.i a.s.now) (omega arith)

pub returns-then-s-i-eq0 : goal.returns-then-s-i-eq0
returns-then-s-i-eq0 c =
    let a = c.args in
    let s = a.s.now in
    let n = length-drop a.i s in
    let o = c.signed4_at in
    elim c.if-signed4_at-pst.branch [
      | then-signed4_at-pst w ↦
          c.is_filled.ensures
          ∙ ap all223 (sym (drop-drop 5 a.i s))
          ∙ trailer_fill a.pst (drop a.i s) (omega arith)
          (sym o.ensures ∙ same_bits {w = w32} (record { sfits = o.type_inv }) (record { sfits = omega arith }) w.if-signed4_at-pst.true)
          (get_or-drop a.i s 4 0 ∙ eqb-true (get_or s (a.i + 4) 0) 0 (sym w.value-is ∙ c.if-s-i-eq0.true))
      | else-signed4_at-pst w ↦ absurd (w.if-signed4_at-pst.false (eqb-true _ _ (sym w.value-is ∙ c.if-s-i-eq0.true)))
    ]

pub returns-else-s-i-eq0 : goal.returns-else-s-i-eq0
returns-else-s-i-eq0 c =
    let a = c.args in
    let s = a.s.now in
    let n = length-drop a.i s in
    let o = c.signed4_at in
    c.if-s-i-eq0.false
    ∙ elim c.if-signed4_at-pst.branch [
      | then-signed4_at-pst w ↦
          trailer_byte a.pst (drop a.i s) (omega arith)
          (sym o.ensures ∙ same_bits {w = w32} (record { sfits = o.type_inv }) (record { sfits = omega arith }) w.if-signed4_at-pst.true)
          (λ e. eqb-false (get_or s (a.i + 4) 0) 0 (sym w.value-is ∙ c.if-s-i-eq0.false) (sym (get_or-drop a.i s 4 0) ∙ e))
      | else-signed4_at-pst w ↦ trailer_off a.pst (drop a.i s) (omega arith) (λ e. w.if-signed4_at-pst.false (ap (of_z w32) (o.ensures ∙ e)))
    ]
