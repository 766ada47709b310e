-- `dvi_step::postamble::are_definitions` meets its contract. The definitions from j decide the whole; the measure is what is left.
-- Assumes nothing.
use mathlib.Core.Path.{refl, sym, ap, ◌∙◌, subst}
use native.Mathlib.Omega.{arith}
use lib.IntN.{negsuc}
use lib.ListN.{length}
use mir.Syntax.{w32}
use mir.Val.{of_z}
use Rattle.integers.specs.Bits.{same_bits}
use Rattle.dvi_step.specs.Postamble.{after_name, FoundIn}
use Prim.Native.Nat.{ℕ}
use Rattle.std.specs.Prelude.{Option, Some}
use Rattle.dvi_step.proofs.Postambles.{ids_short, ids_end, ids_more, none_of}
use Rattle.dvi_step.proofs.postamble.are_definitions.Goals as goal
use Rattle.dvi_step.proofs.postamble.are_definitions.Goals.{In-Some}

pub loop-j-init : goal.loop-j-init
loop-j-init c = (omega arith, refl)

pub returns-then-s-j-lt4 : goal.returns-then-s-j-lt4
returns-then-s-j-lt4 c =
    let a = c.args in
    let i = c.loop-j in
    sym (i.invariant.1 ∙ ids_short a.s.now i.j a.pst c.if-s-j-lt4.true)

pub returns-then-signed4_at : goal.returns-then-signed4_at
returns-then-signed4_at c =
    let a = c.args in
    let i = c.loop-j in
    let n = c.signed4_at in
    let e = sym n.ensures ∙ same_bits {w = w32} {b = negsuc 0} (record { sfits = n.type_inv }) (record { sfits = omega arith }) c.if-signed4_at.true in
    c.is_trailer.ensures ∙ sym (i.invariant.1 ∙ ids_end a.s.now i.j a.pst (omega arith) e)

-- the next ID lies further on, in the file
further : (c : In-Some) → FoundIn c.loop-j.j (Some c.in-Some.next) (length c.args.s.now)
further c =
    subst (λ (r : Option ℕ). FoundIn c.loop-j.j r (length c.args.s.now))
    c.in-Some.is c.past_definition.ensures.within

pub loop-j-smaller : goal.loop-j-smaller
loop-j-smaller c = omega (arith, further c)

pub loop-j-preserved : goal.loop-j-preserved
loop-j-preserved c =
    let a = c.args in
    let i = c.loop-j in
    let s = a.s.now in (
      (further c).1,
      (i.invariant.1
          ∙ ids_more s i.j a.pst (omega arith) (λ e. c.if-signed4_at.false (ap (of_z w32) (c.signed4_at.ensures ∙ e)))
          ∙ c.past_definition.ensures.goes_on a.pst
          ∙ ap (λ (r : Option ℕ). after_name a.pst r s) c.in-Some.is),
    )

pub returns-in_default : goal.returns-in_default
returns-in_default c =
    let a = c.args in
    let i = c.loop-j in
    let s = a.s.now in
    sym (i.invariant.1
    ∙ ids_more s i.j a.pst (omega arith) (λ e. c.if-signed4_at.false (ap (of_z w32) (c.signed4_at.ensures ∙ e)))
    ∙ c.past_definition.ensures.goes_on a.pst
    ∙ ap (λ (r : Option ℕ). after_name a.pst r s) (none_of c.past_definition.result c.in_default.not-Some))
