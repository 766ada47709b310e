-- `dvi2_moves::moves::down` meets its contract: each test is one of those of `may_come`; a move that is cut short is looked for.
-- Assumes nothing.
use mathlib.Core.Path.{◌≡◌, refl, sym, ap, ◌∙◌}
use mathlib.Core.Bool.{true}
use Prim.Native.Nat.{◌+◌, ◌-◌, ◌<◌}
use native.Mathlib.Omega.{arith}
use lib.IntN.{ℤ, pos, ◌+ℤ◌, ◌*ℤ◌}
use lib.ListN.{length}
use mir.Syntax.{w32, w64}
use mir.Val.{SFits, to_z, of_z}
use Rattle.std.specs.Prelude.{Err}
use Rattle.integers.specs.Parts.{integers, scale_parts}
use Rattle.integers.specs.Bits.{plain, same_bits, returned}
use Rattle.octets.specs.Octets.{signed_at}
use Rattle.dvi.specs.FontOrNone.{font_or_none}
use Rattle.dvi2.specs.Writer.{parameter_width}
use Rattle.dvi2_reading.specs.PageReading.{is_downward}
use Rattle.dvi2_reading.specs.Reading.{height_of, page_state_after, in_page, go}
use Rattle.dvi2_reading.specs.PageReading as Page
use Rattle.dvi2_reading.proofs.PieceLaws.{thrice}
use Rattle.dvi2_state.specs.declared.page_state.Wrong.TheVariants.{Bad}
use Rattle.dvi2_state.specs.Page.{StepsAs}
use Rattle.dvi2_state.proofs.Searches.{no_truth}
use Rattle.dvi2_moves.proofs.CodeSteps.{d_not, d_found, d_none, d_bad, d_go}
use Rattle.dvi2_moves.proofs.moves.down.Goals as goal
use Rattle.dvi2_moves.proofs.moves.down.Goals.{Start, After-signed_at-m, After-moved-t, After-is_down, then-parameter_width-k-via-then-parameter_width-k, then-parameter_width-k-via-else-parameter_width-k+then-m-eq0, then-not-before_down-via-then-not-before_down, then-not-before_down-via-else-not-before_down+then-not-valid_in}

module _ (s : Start) where
  -- the number that stands there, and the place that it leads to
  abbrev by : ℤ
  by = signed_at s.args.k (s.args.at + 1) s.args.s.now

  abbrev from : ℤ
  from = pos 3 *ℤ s.args.h.height.0

  abbrev to : ℤ
  to = from +ℤ by

  from_fits : SFits w32 from
  from_fits = let o = s.requires.sound.on_page in omega (integers, o.top, o.bottom)

  height-fits : SFits w32 s.args.h.height.0
  height-fits = let o = s.requires.sound.on_page in omega (integers, o.top, o.bottom, scale_parts 3 s.args.h.height.0)

  refused : s.args.k < length s.args.s.now - s.args.at → (parameter_width by ≡ s.args.k → (by ≡ pos 0 → ⊥) → is_downward to ≡ true → ⊥)
      → StepsAs s.args.s.now s.args.at s.args.h (Err Bad)
  refused c f is l = d_bad s.args.s.now s.args.at (156 + s.args.k) s.args.k s.args.h s.requires is l refl c f

by-is : (c : After-signed_at-m) → to_z w32 (of_z w32 c.signed_at-m.result) ≡ signed_at c.args.k (c.args.at + 1) c.args.s.now
by-is c = returned w32 c.signed_at-m.type_inv c.signed_at-m.ensures

to_is : (c : After-moved-t) → to_z w64 (of_z w64 c.moved-t.result) ≡ pos 3 *ℤ c.args.h.height.0 +ℤ signed_at c.args.k (c.args.at + 1) c.args.s.now
to_is c =
    let o = c.requires.sound.on_page in
    let f : SFits w32 (pos 3 *ℤ c.args.h.height.0) = omega (integers, o.top, o.bottom) in
    let g : SFits w32 c.args.h.height.0 = omega (integers, o.top, o.bottom, scale_parts 3 c.args.h.height.0) in
    let y = ap (λ (z : ℤ). to_z w32 (of_z w32 (pos 3 *ℤ z))) (plain g) ∙ plain f in
    let n = returned w32 c.signed_at-m.type_inv c.signed_at-m.ensures in
    returned w64 c.moved-t.type_inv (c.moved-t.ensures ∙ (λ i. y i +ℤ n i))

down_is : (c : After-is_down) → to_z w64 (of_z w64 c.moved-t.result) ≡ pos 3 *ℤ c.args.h.height.0 +ℤ signed_at c.args.k (c.args.at + 1) c.args.s.now → c.is_down.result ≡ is_downward (pos 3 *ℤ c.args.h.height.0 +ℤ signed_at c.args.k (c.args.at + 1) c.args.s.now)
down_is c e = c.is_down.ensures ∙ ap is_downward e

pub returns-then-may_begin_down : goal.returns-then-may_begin_down
returns-then-may_begin_down c =
    λ is l.
    d_found c.args.s.now c.args.at (156 + c.args.k) c.args.k c.args.h c.requires is l refl
    (sym c.before_down.ensures ∙ c.if-not-before_down.false)
    (sym c.valid_in.ensures ∙ c.if-not-valid_in.false) c.if-s-at.true
    (sym c.may_begin_down.ensures ∙ c.if-may_begin_down.true)

pub returns-else-may_begin_down : goal.returns-else-may_begin_down
returns-else-may_begin_down c =
    λ is l.
    d_none c.args.s.now c.args.at (156 + c.args.k) c.args.k c.args.h c.requires is l refl
    (sym c.before_down.ensures ∙ c.if-not-before_down.false)
    (sym c.valid_in.ensures ∙ c.if-not-valid_in.false) c.if-s-at.true
    (sym c.may_begin_down.ensures ∙ c.if-may_begin_down.false)

pub returns-then-parameter_width-k : goal.returns-then-parameter_width-k
returns-then-parameter_width-k c =
    let p = goal.at.returns-then-parameter_width-k c in
    refused p.Start (omega (arith, c.if-s-at.false))
    (λ w n d.
    elim c.then-parameter_width-k.branch [
      | then-parameter_width-k-via-then-parameter_width-k b ↦
          b.if-parameter_width-k.true (c.parameter_width.ensures.0 ∙ ap parameter_width (by-is p.After-signed_at-m) ∙ w)
      | then-parameter_width-k-via-else-parameter_width-k+then-m-eq0 b ↦
          n (sym c.signed_at-m.ensures
          ∙ same_bits {w = w32} {b = pos 0} (record { sfits = c.signed_at-m.type_inv }) (record { sfits = omega arith }) b.if-m-eq0.true)
    ])

pub overflow_mul-h : goal.overflow_mul-h
overflow_mul-h c =
    let p = goal.at.overflow_mul-h c in
    rw (plain (height-fits p.Start)) (from_fits p.Start)

pub height_at-requires : goal.height_at-requires
height_at-requires c =
    let p = goal.at.height_at-requires c in
    rw (to_is p.After-moved-t) (sym (down_is p.After-is_down (to_is p.After-moved-t)) ∙ c.if-not-is_down.false)

pub returns : goal.returns
unfolding page_state_after
returns c =
    let p = goal.at.returns c in
    let m = p.After-signed_at-m in
    let s = p.Start in
    let d = sym (down_is p.After-is_down (to_is p.After-moved-t)) ∙ c.if-not-is_down.false in
    let y = ap (λ (z : ℤ). pos 3 *ℤ z) (c.height_at.ensures ∙ ap height_of (to_is p.After-moved-t)) ∙ thrice (to s) d in
    λ is l.
    (λ i. go (in_page (record { items = is; stage = Page.lowered; position = record { font = font_or_none s.args.h.font; x = s.args.h.x.0; y = y i } })) s.args.k)
    ∙ sym (d_go s.args.s.now s.args.at (156 + s.args.k) s.args.k s.args.h s.requires is l refl
    (sym m.before_down.ensures ∙ m.if-not-before_down.false)
    (sym m.valid_in.ensures ∙ m.if-not-valid_in.false)
    (omega (arith, m.if-s-at.false)) (λ i. (c.type_inv.s i).fits)
    (ap parameter_width (sym (by-is m)) ∙ sym c.parameter_width.ensures.0 ∙ c.if-parameter_width-k.false)
    (λ e. c.if-m-eq0.false (ap (of_z w32) (m.signed_at-m.ensures ∙ e))) d)

pub returns-then-not-is_down : goal.returns-then-not-is_down
returns-then-not-is_down c =
    let p = goal.at.returns-then-not-is_down c in
    refused p.Start (omega (arith, c.if-s-at.false))
    (λ w n d. no_truth _ d (sym (down_is p.After-is_down (to_is p.After-moved-t)) ∙ c.if-not-is_down.true))

pub returns-then-not-before_down : goal.returns-then-not-before_down
returns-then-not-before_down c =
    λ is l.
    d_not c.args.s.now c.args.at (156 + c.args.k) c.args.k c.args.h c.requires is l refl
    (λ e v.
    elim c.then-not-before_down.branch [
      | then-not-before_down-via-then-not-before_down b ↦ no_truth _ e (sym c.before_down.ensures ∙ b.if-not-before_down.true)
      | then-not-before_down-via-else-not-before_down+then-not-valid_in b ↦ no_truth _ v (sym b.valid_in.ensures ∙ b.if-not-valid_in.true)
    ])
