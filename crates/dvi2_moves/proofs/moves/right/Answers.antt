-- `dvi2_moves::moves::right` meets its contract: each test is one of those of `may_come`; a move that is cut short is looked for.
-- Assumes nothing.
use mathlib.Core.Path.{◌≡◌, refl, sym, ap, subst, ◌∙◌}
use mathlib.Core.Bool.{Bool, true}
use Prim.Native.Nat.{◌+◌, ◌-◌, ◌<◌}
use native.Mathlib.Omega.{arith}
use borrow.Author.Rules.{rules}
use lib.IntN.{ℤ, pos, ◌+ℤ◌, ◌*ℤ◌}
use lib.ListN.{length}
use mir.Syntax.{w32, w64}
use mir.Val.{SFits, to_z, of_z}
use Rattle.std.specs.Prelude.{Err}
use Rattle.integers.specs.Bits.{plain, same_bits, returned}
use Rattle.octets.specs.Octets.{signed_at}
use Rattle.dvi.specs.FontOrNone.{font_or_none}
use Rattle.dvi2.specs.Writer.{parameter_width}
use Rattle.dvi2_reading.specs.PageReading.{valid_in}
use Rattle.dvi2_reading.specs.Reading.{page_state_after, in_page, go}
use Rattle.dvi2_reading.specs.PageReading as Page
use Rattle.dvi2_state.specs.declared.page_state.Wrong.TheVariants.{Bad}
use Rattle.dvi2_state.specs.Page.{StepsAs}
use Rattle.dvi2_state.proofs.Searches.{no_truth}
use Rattle.dvi2_moves.proofs.CodeSteps.{r_not, r_found, r_none, r_bad, r_go, valid_fits}
use Rattle.dvi2_moves.proofs.moves.right.Goals as goal
use Rattle.dvi2_moves.proofs.moves.right.Goals.{Start, After-signed_at-m, After-moved-t, After-valid_at, then-parameter_width-k-via-then-parameter_width-k, then-parameter_width-k-via-else-parameter_width-k+then-m-eq0}

module _ (s : Start) where
  -- the number that stands there, and the place that it leads to
  abbrev by : ℤ
  by = signed_at s.args.k (s.args.at + 1) s.args.s.now

  abbrev to : ℤ
  to = s.args.h.x.0 +ℤ by

  abbrev allowed : ℤ → Bool
  allowed z = valid_in (font_or_none s.args.h.font) z

  to_fits : allowed to ≡ true → SFits w32 to
  to_fits v = valid_fits (font_or_none s.args.h.font) to v

  refused : s.args.k < length s.args.s.now - s.args.at → (parameter_width by ≡ s.args.k → (by ≡ pos 0 → ⊥) → allowed to ≡ true → ⊥)
      → StepsAs s.args.s.now s.args.at s.args.h (Err Bad)
  refused c f is l = r_bad s.args.s.now s.args.at (142 + s.args.k) s.args.k s.args.h s.requires is l refl c f

by-is : (c : After-signed_at-m) → to_z w32 (of_z w32 c.signed_at-m.result) ≡ signed_at c.args.k (c.args.at + 1) c.args.s.now
by-is c = returned w32 c.signed_at-m.type_inv c.signed_at-m.ensures

to_is : (c : After-moved-t) → to_z w64 (of_z w64 c.moved-t.result) ≡ c.args.h.x.0 +ℤ signed_at c.args.k (c.args.at + 1) c.args.s.now
to_is c =
    let f : SFits w32 c.args.h.x.0 = search rules in
    let n = returned w32 c.signed_at-m.type_inv c.signed_at-m.ensures in
    returned w64 c.moved-t.type_inv (c.moved-t.ensures ∙ (λ i. plain f i +ℤ n i))

allowed-is : (c : After-valid_at) → to_z w64 (of_z w64 c.moved-t.result) ≡ c.args.h.x.0 +ℤ signed_at c.args.k (c.args.at + 1) c.args.s.now
    → c.valid_at.result ≡ valid_in (font_or_none c.args.h.font) (c.args.h.x.0 +ℤ signed_at c.args.k (c.args.at + 1) c.args.s.now)
allowed-is c e = c.valid_at.ensures ∙ ap (valid_in (font_or_none c.args.h.font)) e

pub returns-then-may_begin_right : goal.returns-then-may_begin_right
returns-then-may_begin_right c =
    λ is l.
    r_found c.args.s.now c.args.at (142 + c.args.k) c.args.k c.args.h c.requires is l refl
    (sym c.before_right.ensures ∙ c.if-not-before_right.false) c.if-s-at.true
    (sym c.may_begin_right.ensures ∙ c.if-may_begin_right.true)

pub returns-else-may_begin_right : goal.returns-else-may_begin_right
returns-else-may_begin_right c =
    λ is l.
    r_none c.args.s.now c.args.at (142 + c.args.k) c.args.k c.args.h c.requires is l refl
    (sym c.before_right.ensures ∙ c.if-not-before_right.false) c.if-s-at.true
    (sym c.may_begin_right.ensures ∙ c.if-may_begin_right.false)

pub returns-then-parameter_width-k : goal.returns-then-parameter_width-k
returns-then-parameter_width-k c =
    let p = goal.at.returns-then-parameter_width-k c in
    refused p.Start (omega (arith, c.if-s-at.false))
    (λ w n v.
    elim c.then-parameter_width-k.branch [
      | then-parameter_width-k-via-then-parameter_width-k b ↦
          b.if-parameter_width-k.true (c.parameter_width.ensures.0 ∙ ap parameter_width (by-is p.After-signed_at-m) ∙ w)
      | then-parameter_width-k-via-else-parameter_width-k+then-m-eq0 b ↦
          n (sym c.signed_at-m.ensures
          ∙ same_bits {w = w32} {b = pos 0} (record { sfits = c.signed_at-m.type_inv }) (record { sfits = omega arith }) b.if-m-eq0.true)
    ])

pub overflow_cast-result : goal.overflow_cast-result
overflow_cast-result c =
    let p = goal.at.overflow_cast-result c in
    subst (SFits w32) (sym (to_is p.After-moved-t)) (to_fits p.Start (sym (allowed-is p.After-valid_at (to_is p.After-moved-t)) ∙ c.if-not-valid_at.false))

pub returns : goal.returns
unfolding page_state_after
returns c =
    let p = goal.at.returns c in
    let m = p.After-signed_at-m in
    let s = p.Start in
    let v = sym (allowed-is p.After-valid_at (to_is p.After-moved-t)) ∙ c.if-not-valid_at.false in
    let x = ap (λ (z : ℤ). to_z w32 (of_z w32 z)) (to_is p.After-moved-t) ∙ plain (to_fits s v) in
    λ is l.
    (λ i. go (in_page (record { items = is; stage = Page.moved; position = record { font = font_or_none s.args.h.font; x = x i; y = pos 3 *ℤ s.args.h.height.0 } })) s.args.k)
    ∙ sym (r_go s.args.s.now s.args.at (142 + s.args.k) s.args.k s.args.h s.requires is l refl
    (omega (arith, m.if-s-at.false)) (λ i. (c.type_inv.s i).fits)
    (sym m.before_right.ensures ∙ m.if-not-before_right.false)
    (ap parameter_width (sym (by-is m)) ∙ sym c.parameter_width.ensures.0 ∙ c.if-parameter_width-k.false)
    (λ e. c.if-m-eq0.false (ap (of_z w32) (m.signed_at-m.ensures ∙ e))) v)

pub returns-then-not-valid_at : goal.returns-then-not-valid_at
returns-then-not-valid_at c =
    let p = goal.at.returns-then-not-valid_at c in
    refused p.Start (omega (arith, c.if-s-at.false))
    (λ w n v. no_truth _ v (sym (allowed-is p.After-valid_at (to_is p.After-moved-t)) ∙ c.if-not-valid_at.true))

pub returns-then-not-before_right : goal.returns-then-not-before_right
returns-then-not-before_right c =
    λ is l. r_not c.args.s.now c.args.at (142 + c.args.k) c.args.k c.args.h c.requires is l refl (sym c.before_right.ensures ∙ c.if-not-before_right.true)
