-- Which font may be chosen, by the two marks and the last font.
-- Assumes nothing.
use mathlib.Core.Path.{◌≡◌, refl, sym, ap, ◌∙◌}
use mathlib.Core.Bool.{Bool, true, false, not, cond, ◌&&◌}
use mathlib.Core.List.{List}
use mathlib.Core.Option.{Option, none, some}
use Prim.Native.Nat.{ℕ, ◌≤◌, ◌<◌}
use native.Mathlib.Omega.{arith}
use borrow.Author.Tests.{eq-eqb, ne_eqb, eqb-true, eqb-false}
use lib.Dec.{eqb}
use Rattle.galley_file.specs.declared.item.Item.{Item}
use Rattle.galley_file.specs.Item.{characters_of}
use Rattle.extents.specs.FontMarks.{uses, is_marked}
use Rattle.extents.proofs.FontMarksLaws.{marked_used}
use Rattle.dvi2_reading.specs.PageReading.{is_font, may_choose, ready, named}
use Rattle.dvi2_reading.specs.PageReading as Page
use Rattle.dvi.specs.FontOrNone.{font_or_none}
use Rattle.dvi2_page.specs.Fonts.{Known}

-- the last font is f
font_is : (o f : ℕ) → f < 120 → is_font (font_or_none o) f ≡ eqb o f
unfolding font_or_none
font_is o f l = go (eqb o 255) refl
  where
    go : (t : Bool) → eqb o 255 ≡ t → is_font (cond t none (some o)) f ≡ eqb o f
    go true e = let q = eqb-true o 255 e in sym (ne_eqb o f (λ (k : o ≡ f). omega arith))
    go false e = refl

module _ (o f low high : ℕ) (is : List Item) (k : Known low high is) where
  pub choose_big : (s : Page.Stage) → 120 ≤ f → ((g : ℕ) → font_or_none o ≡ some g → g < 120) → false ≡ may_choose s (characters_of is) (font_or_none o) f
  choose_big Page.ready l n = go (uses f (characters_of is)) refl
    where
      go : (t : Bool) → uses f (characters_of is) ≡ t → false ≡ (t && not (is_font (font_or_none o) f))
      go true e = let b = k.small f e in absurd (omega arith)
      go false e = refl
  choose_big Page.named l n = go (font_or_none o) refl
    where
      go : (p : Option ℕ) → font_or_none o ≡ p → false ≡ is_font p f
      go none e = refl
      go (some g) e = let b = n g e in sym (ne_eqb g f (λ (q : g ≡ f). omega arith))
  choose_big Page.chosen l n = refl
  choose_big Page.moved l n = refl
  choose_big Page.lowered l n = refl

  module _ (l : f < 120) where
    pub choose_same : f ≡ o → false ≡ may_choose ready (characters_of is) (font_or_none o) f
    choose_same e = sym (ap (λ (t : Bool). uses f (characters_of is) && not t) (font_is o f l ∙ eq-eqb o f (sym e)) ∙ right_false (uses f (characters_of is)))
      where
        right_false : (t : Bool) → (t && false) ≡ false
        right_false true = refl
        right_false false = refl

    pub choose_ready : (f ≡ o → ⊥) → is_marked low high f ≡ may_choose ready (characters_of is) (font_or_none o) f
    choose_ready n =
        marked_used low high (characters_of is) k.fonts f l
        ∙ sym (ap (λ (t : Bool). uses f (characters_of is) && not t) (font_is o f l ∙ ne_eqb o f (λ q. n (sym q))) ∙ right_true (uses f (characters_of is)))
      where
        right_true : (t : Bool) → (t && true) ≡ t
        right_true true = refl
        right_true false = refl

    pub choose_named : eqb f o ≡ may_choose named (characters_of is) (font_or_none o) f
    choose_named = go (eqb f o) refl ∙ sym (font_is o f l)
      where
        go : (t : Bool) → eqb f o ≡ t → t ≡ eqb o f
        go true e = sym (eq-eqb o f (sym (eqb-true f o e)))
        go false e = sym (ne_eqb o f (λ (q : o ≡ f). eqb-false f o e (sym q)))
