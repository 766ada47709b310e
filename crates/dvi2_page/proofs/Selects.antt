-- The steps of the font commands, in the code's terms.
-- Assumes nothing.
use mathlib.Core.Path.{◌≡◌, refl, sym, ap, ◌∙◌}
use mathlib.Core.Bool.{Bool, true, false, not}
use mathlib.Core.List.{List, [], ◌∷◌}
use mathlib.Core.Option.{Option}
use Prim.Native.Nat.{ℕ, suc, ◌+◌, ◌-◌, ◌≤◌, ◌<◌}
use native.Mathlib.Omega.{arith}
use borrow.Author.Tests.{lt-ltb, le-leb, lt-leb, leb-true, leb-false}
use lib.Dec.{leb}
use lib.ListN.{length, get_or, drop, drop_of_length-le}
use lib.Seq.{drop-cons}
use Rattle.octets.specs.FieldLaws.{both}
use Rattle.galley_file.specs.declared.character.Character.{Character}
use Rattle.galley_file.specs.declared.item.Item.{Item}
use Rattle.galley_file.specs.Galley.{max_items}
use Rattle.galley_file.specs.Item.{characters_of}
use Rattle.dvi2_reading.specs.PageReading as Page
use Rattle.dvi2_reading.specs.PageReading.{some_below, may_come, may_choose, selecting}
use Rattle.dvi2_reading.specs.Reading.{step, in_page, refuse, short, go, page_state_after}
use Rattle.dvi2_reading.proofs.BytesLaws.{some_found, found_some}
use Rattle.dvi2_state.specs.declared.page_state.PageState.{PageState}
use Rattle.dvi.specs.FontOrNone.{font_or_none}
use Rattle.dvi2_state.specs.Page.{stage_of, page_state_of, SoundPage}
use Rattle.dvi2_page.specs.Fonts.{Known, chooses_high, is_free}
use Rattle.dvi2_page.proofs.Choices.{low_bad, low_go, high_none, high_some, high_bad, high_go}
use Rattle.extents.specs.FontMarks.{is_marked}
use Rattle.extents.proofs.FontMarksLaws.{marked_used}
use Rattle.dvi2_page.proofs.Marks.{choose_big}
use Rattle.dvi2_state.proofs.Searches.{no_truth}

-- no font below 64
pub low_not : (s : Page.Stage) (cs : List Character) (o : Option ℕ) (f : ℕ) → f < 64 → chooses_high s cs o f ≡ false
unfolding chooses_high
low_not s cs o f l = rw (lt-leb 64 f l) refl

pub chooses_high_lem : (s : Page.Stage) (cs : List Character) (o : Option ℕ) (f : ℕ) → 64 ≤ f → chooses_high s cs o f ≡ may_choose s cs o f
unfolding chooses_high
chooses_high_lem s cs o f l = rw (le-leb 64 f l)

module _ (S : List ℕ) (at : ℕ) (h : PageState) (sound : SoundPage h) (is : List Item) (l : length is < max_items) (low high : ℕ) (k : Known low high is) where
  abbrev H : Page.PageState
  H = page_state_of is h

  abbrev B : ℕ
  B = get_or S at 0

  abbrev P : List ℕ
  P = drop (at + 1) S

  abbrev chooses : ℕ → Bool
  chooses f = may_choose (stage_of h.stage) (characters_of is) (font_or_none h.font) f

  select_is : (f : ℕ) → may_come H (selecting f) ≡ chooses f
  unfolding may_come
  select_is f = rw (lt-ltb (length is) max_items l)

  pub s_low_go : 171 ≤ B → B ≤ 234 → chooses (B - 171) ≡ true → go (page_state_after H (selecting (B - 171))) 0 ≡ step (in_page H) B P
  s_low_go a b c = sym (low_go H B P a b (select_is (B - 171) ∙ c))

  pub s_low_bad : 171 ≤ B → B ≤ 234 → chooses (B - 171) ≡ false → refuse ≡ step (in_page H) B P
  s_low_bad a b c = sym (low_bad H B P a b (select_is (B - 171) ∙ c))

  module _ (o : B ≡ 235) where
    none_here : length S - at < 2 → P ≡ []
    none_here n = drop_of_length-le S {i = at + 1} (omega arith)

    pub s_short : length S - at < 2 → some_below 120 (chooses_high (stage_of h.stage) (characters_of is) (font_or_none h.font)) ≡ true → short ≡ step (in_page H) B P
    unfolding chooses_high
    s_short n e =
        let f = some_found 120 (chooses_high (stage_of h.stage) (characters_of is) (font_or_none h.font)) e in
        let b = both (leb 64 f.found) (chooses f.found) f.holds in
        sym (high_some H B P o (none_here n) f.found (leb-true 64 f.found b.0) f.is_below (select_is f.found ∙ b.1))

    pub s_none : length S - at < 2 → some_below 120 (chooses_high (stage_of h.stage) (characters_of is) (font_or_none h.font)) ≡ false → refuse ≡ step (in_page H) B P
    s_none n e =
        sym (high_none H B P o (none_here n)
        (λ f a b. select_is f ∙ off f (chooses f) refl a b)
        (λ f m. small f (leb 120 f) refl (sym (select_is f) ∙ m)))
      where
        off : (f : ℕ) (t : Bool) → chooses f ≡ t → 64 ≤ f → f < 120 → t ≡ false
        off f true q a b =
            absurd (no_truth _ (found_some 120 (chooses_high (stage_of h.stage) (characters_of is) (font_or_none h.font)) f b (chooses_high_lem (stage_of h.stage) (characters_of is) (font_or_none h.font) f a ∙ q)) e)
        off f false q a b = refl

        small : (f : ℕ) (t : Bool) → leb 120 f ≡ t → chooses f ≡ true → f < 120
        small f true q c = absurd (no_truth (chooses f) c (sym (choose_big h.font f low high is k (stage_of h.stage) (leb-true 120 f q) sound.font_valid)))
        small f false q c = leb-false 120 f q

    module _ (n : at + 1 < length S) where
      next_here : P ≡ get_or S (at + 1) 0 ∷ drop (suc (at + 1)) S
      next_here = drop-cons S (at + 1) 0 n

      pub s_high_bad : (64 ≤ get_or S (at + 1) 0 → chooses (get_or S (at + 1) 0) ≡ true → ⊥) → refuse ≡ step (in_page H) B P
      s_high_bad f = sym (high_bad H B P o (get_or S (at + 1) 0) (drop (suc (at + 1)) S) next_here (λ a m. f a (sym (select_is (get_or S (at + 1) 0)) ∙ m)))

      pub s_high_go : 64 ≤ get_or S (at + 1) 0 → chooses (get_or S (at + 1) 0) ≡ true → go (page_state_after H (selecting (get_or S (at + 1) 0))) 1 ≡ step (in_page H) B P
      s_high_go a c = sym (high_go H B P o (get_or S (at + 1) 0) (drop (suc (at + 1)) S) next_here a (select_is (get_or S (at + 1) 0) ∙ c))

pub unmarked_free : (low high : ℕ) (is : List Item) → Known low high is → (f : ℕ) → f < 120 → not (is_marked low high f) ≡ is_free (characters_of is) f
unfolding is_free
unmarked_free low high is k f l = ap not (marked_used low high (characters_of is) k.fonts f l)
