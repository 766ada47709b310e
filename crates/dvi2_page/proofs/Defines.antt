-- The steps of a font's definition, in the code's terms.
-- Assumes nothing.
use mathlib.Core.Path.{◌≡◌, refl, sym, ap, ◌∙◌}
use mathlib.Core.Bool.{Bool, true, false, not, ◌&&◌}
use mathlib.Core.List.{List, [], ◌∷◌}
use Prim.Native.Nat.{ℕ, suc, ◌+◌, ◌-◌, ◌≤◌, ◌<◌}
use native.Mathlib.Numerals.{add-one}
use native.Mathlib.Omega.{arith}
use borrow.Author.Tests.{lt-ltb, le-ltb}
use lib.Dec.{ltb}
use lib.ListN.{length, get_or, drop, drop_of_length-le}
use lib.Seq.{drop-cons}
use Rattle.std.specs.Prelude.{Ok, Err}
use Rattle.galley_file.specs.declared.item.Item.{Item}
use Rattle.galley_file.specs.Galley.{max_items}
use Rattle.galley_file.specs.Item.{characters_of}
use Rattle.extents.specs.FontMarks.{uses, is_marked}
use Rattle.dvi2.specs.Writer.{definition}
use Rattle.dvi2_reading.specs.PageReading as Page
use Rattle.dvi2_reading.specs.PageReading.{some_below, may_come, is_ready, defining}
use Rattle.dvi2_reading.specs.Reading.{step, in_page, refuse, short, go, page_state_after}
use Rattle.dvi2_reading.proofs.BytesLaws.{some_found, found_some}
use Rattle.dvi2_state.specs.declared.page_state.PageState.{PageState}
use Rattle.dvi2_state.specs.declared.page_state.Wrong.{Wrong}
use Rattle.dvi2_state.specs.declared.page_state.Wrong.TheVariants.{Bad, Short}
use Rattle.dvi2_page.specs.Match.{compared}
use Rattle.dvi2_state.specs.Page.{stage_of, page_state_of, StepIs}
use Rattle.dvi2_page.specs.Fonts.{Known, is_free}
use Rattle.dvi2_page.proofs.Choices.{define_none, define_some, define_not, define_other, define_short, define_go}
use Rattle.dvi2_state.proofs.Searches.{no_truth}
use Rattle.dvi2_page.proofs.Selects.{unmarked_free}

module _ (S : List ℕ) (at : ℕ) (h : PageState) (is : List Item) (l : length is < max_items) (low high : ℕ) (k : Known low high is) (o : get_or S at 0 ≡ 243) where
  abbrev H : Page.PageState
  H = page_state_of is h

  abbrev B : ℕ
  B = get_or S at 0

  abbrev P : List ℕ
  P = drop (at + 1) S

  define_is : (f : ℕ) → may_come H (defining f) ≡ (is_ready (stage_of h.stage) && (ltb f 120 && not (uses f (characters_of is))))
  unfolding may_come
  define_is f = rw (lt-ltb (length is) max_items l)

  pub d_not_ready : is_ready (stage_of h.stage) ≡ false → refuse ≡ step (in_page H) B P
  d_not_ready e = sym (define_none H B P o (λ f u. define_is f ∙ ap (λ (t : Bool). t && (ltb f 120 && not (uses f (characters_of is)))) e))

  module _ (r : is_ready (stage_of h.stage) ≡ true) where
    ready_is : (f : ℕ) → may_come H (defining f) ≡ (ltb f 120 && not (uses f (characters_of is)))
    ready_is f = define_is f ∙ ap (λ (t : Bool). t && (ltb f 120 && not (uses f (characters_of is)))) r

    free_is : (f : ℕ) → f < 120 → may_come H (defining f) ≡ is_free (characters_of is) f
    unfolding is_free
    free_is f u = ready_is f ∙ ap (λ (t : Bool). t && not (uses f (characters_of is))) (lt-ltb f 120 u)

    none_here : length S - at < 2 → P ≡ []
    none_here n = drop_of_length-le S {i = at + 1} (omega arith)

    pub d_short : length S - at < 2 → some_below 120 (is_free (characters_of is)) ≡ true → short ≡ step (in_page H) B P
    d_short n e =
        let f = some_found 120 (is_free (characters_of is)) e in
        sym (define_some H B P o (none_here n) f.found f.is_below (free_is f.found f.is_below ∙ f.holds))

    pub d_none : length S - at < 2 → some_below 120 (is_free (characters_of is)) ≡ false → refuse ≡ step (in_page H) B P
    d_none n e = sym (define_none H B P o (λ f u. free_is f u ∙ off f (is_free (characters_of is) f) refl u))
      where
        off : (f : ℕ) (t : Bool) → is_free (characters_of is) f ≡ t → f < 120 → t ≡ false
        off f true q u = absurd (no_truth _ (found_some 120 (is_free (characters_of is)) f u q) e)
        off f false q u = refl

    module _ (n : at + 1 < length S) (f : ℕ) (e : get_or S (at + 1) 0 ≡ f) where
      abbrev Q : List ℕ
      Q = drop (suc (at + 1)) S

      here : P ≡ f ∷ Q
      here = drop-cons S (at + 1) 0 n ∙ ap (λ (b : ℕ). b ∷ Q) e

      pub d_big : 120 ≤ f → refuse ≡ step (in_page H) B P
      d_big b = sym (define_not H B P o f Q here (ready_is f ∙ ap (λ (t : Bool). t && not (uses f (characters_of is))) (le-ltb f 120 b)))

      pub d_used : f < 120 → is_marked low high f ≡ true → refuse ≡ step (in_page H) B P
      d_used u m = sym (define_not H B P o f Q here (free_is f u ∙ sym (unmarked_free low high is k f u) ∙ ap not m))

      module _ (u : f < 120) (m : is_marked low high f ≡ false) where
        may : may_come H (defining f) ≡ true
        may = free_is f u ∙ sym (unmarked_free low high is k f u) ∙ ap not m

        whole : drop at S ≡ B ∷ P
        whole = drop-cons S at 0 (omega arith) ∙ ap (λ (j : ℕ). B ∷ drop j S) (sym (add-one at))

        pub d_other : compared (drop at S) (definition f) ≡ Err Bad → refuse ≡ step (in_page H) B P
        d_other c = sym (define_other H B P o f Q here (ap (λ (t : List ℕ). compared t (definition f)) (sym whole) ∙ c))

        pub d_cut : compared (drop at S) (definition f) ≡ Err Short → short ≡ step (in_page H) B P
        d_cut c = sym (define_short H B P o f Q here u may (ap (λ (t : List ℕ). compared t (definition f)) (sym whole) ∙ c))

        pub d_go : compared (drop at S) (definition f) ≡ Ok tt → go (page_state_after H (defining f)) 19 ≡ step (in_page H) B P
        d_go c = sym (define_go H B P o f Q here may (ap (λ (t : List ℕ). compared t (definition f)) (sym whole) ∙ c))

        pub d_wrong : (w : Wrong) → compared (drop at S) (definition f) ≡ Err w → StepIs S at h is (Err w)
        d_wrong Bad c = d_other c
        d_wrong Short c = d_cut c
