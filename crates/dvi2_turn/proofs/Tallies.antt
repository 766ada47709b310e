-- What is known of the items, with one item more; and what the postamble and the next bop are by it.
-- Assumes nothing.
use mathlib.Core.Path.{◌≡◌, refl, sym, ap, subst, ◌∙◌}
use mathlib.Core.List.{List, [], ◌∷◌, ◌++◌, append-nil, foldl-append}
use Prim.Native.Nat.{ℕ, suc, ◌+◌, ◌-◌}
use native.Mathlib.Omega.{arith}
use lib.IntN.{pos}
use lib.ListN.{length, length-append}
use Rattle.galley_file.specs.declared.character.Character.{Character}
use Rattle.galley_file.specs.declared.item.Item.{Item}
use Rattle.galley_file.specs.declared.item.Item.TheVariants.{Placed, Cut}
use Rattle.galley_file.specs.Item.{characters_of, cuts_of}
use Rattle.galley_file.specs.ItemLaws.{characters_append, cuts_append, all_counted}
use Rattle.extents.specs.declared.Extents.{Extents}
use Rattle.extents.specs.Extents.{ExtentsAre, with_one_item, extents_of, no_extents, with_characters}
use Rattle.extents.proofs.ExtentsLaws.{with_item, extents_are}
use Rattle.dvi2.specs.Writer.{bop_bytes, Writing, first_writing, writing_after, writing_after_all}
use Rattle.dvi2.specs.WriterLaws.{writing_small}
use Rattle.dvi2_frame.specs.Frame.{post_of}
use Rattle.dvi2_frame.specs.FrameLaws.{ranged, post_is as frame-post}
use Rattle.dvi2_reading.specs.Beginning.{Writable}
use Rattle.dvi2_reading.specs.Reading as R
use Rattle.dvi2_reading.specs.Reached.{writing_of}
use Rattle.dvi2_reading.proofs.PieceLaws.{used_small}
use Rattle.dvi2_page.specs.Fonts.{Known}
use Rattle.dvi2_turn.specs.declared.tally.Tally.{Tally}
use Rattle.dvi2_turn.specs.Tally.{TallyIs, TallyRanged}

-- ---- one item more

pub tally_none : (t : Tally) → t.characters ≡ 0 → t.cuts ≡ 0 → t.extents ≡ no_extents → t.bop ≡ 15 → TallyIs t []
unfolding characters_of cuts_of extents_of with_characters first_writing
tally_none t c n e b = record { characters_are = c; cuts_are = n; extents_are = e; bop_is = b }

module _ (t r : Tally) (is : List Item) (k : TallyIs t is) where
  extents_more : (i : Item) → r.extents ≡ with_one_item t.extents i → r.extents ≡ extents_of (characters_of (is ++ (i ∷ [])))
  unfolding extents_of
  extents_more i e = e ∙ ap (λ (x : Extents). with_one_item x i) k.extents_are ∙ sym (with_item no_extents is i)

  after_is : (i : Item) → writing_of (is ++ (i ∷ [])) ≡ writing_after (writing_of is) i
  after_is i = foldl-append writing_after first_writing is (i ∷ [])

  pub tally_character : (c : Character) → r.characters ≡ t.characters + 1 → r.cuts ≡ t.cuts → r.extents ≡ with_one_item t.extents (Placed c) → r.bop ≡ t.bop → TallyIs r (is ++ (Placed c ∷ []))
  unfolding characters_of cuts_of writing_after
  tally_character c n m e b =
      record {
        characters_are = omega (arith, n, k.characters_are, ap length (characters_append is (Placed c ∷ [])), length-append (characters_of is) (c ∷ []));
        cuts_are = omega (arith, m, k.cuts_are, cuts_append is (Placed c ∷ []));
        extents_are = extents_more (Placed c) e;
        bop_is = b ∙ k.bop_is ∙ ap (λ (p : Writing). p.bop) (sym (after_is (Placed c)));
      }

  pub tally_cut : (at : ℕ) → r.characters ≡ t.characters → r.cuts ≡ t.cuts + 1 → r.extents ≡ with_one_item t.extents Cut → r.bop ≡ at - 45 → at ≡ (writing_of (is ++ (Cut ∷ []))).at → TallyIs r (is ++ (Cut ∷ []))
  unfolding characters_of cuts_of writing_after
  tally_cut at n m e b p =
      let q : at ≡ (writing_of is).at + 46 = p ∙ ap (λ (w : Writing). w.at) (after_is Cut) in
      let o : at - 45 ≡ (writing_of is).at + 1 = omega arith in
      record {
        characters_are = omega (arith, n, k.characters_are, ap length (characters_append is (Cut ∷ [])), ap length (append-nil (characters_of is)));
        cuts_are = omega (arith, m, k.cuts_are, cuts_append is (Cut ∷ []));
        extents_are = extents_more Cut e;
        bop_is = b ∙ o ∙ ap (λ (w : Writing). w.bop) (sym (after_is Cut));
      }

module _ (t r : Tally) (is : List Item) (k : TallyIs t is) (i : Item) (x : r.extents ≡ with_one_item t.extents i) where
  pub tally_placed : (c : Character) → i ≡ Placed c → r.characters ≡ t.characters + 1 → r.cuts ≡ t.cuts → r.bop ≡ t.bop → TallyIs r (is ++ (i ∷ []))
  tally_placed c e n m b = subst (λ (j : Item). TallyIs r (is ++ (j ∷ []))) (sym e) (tally_character t r is k c n m (x ∙ ap (with_one_item t.extents) e) b)

  pub tally_ended : (at : ℕ) → i ≡ Cut → r.characters ≡ t.characters → r.cuts ≡ t.cuts + 1 → r.bop ≡ at - 45 → at ≡ (writing_of (is ++ (i ∷ []))).at → TallyIs r (is ++ (i ∷ []))
  tally_ended at e n m b p =
      subst (λ (j : Item). TallyIs r (is ++ (j ∷ []))) (sym e)
      (tally_cut t r is k at n m (x ∙ ap (with_one_item t.extents) e) b (p ∙ ap (λ (j : Item). (writing_of (is ++ (j ∷ []))).at) e))

-- ---- of items that the writer takes

module _ (t : Tally) (is : List Item) (k : TallyIs t is) (w : Writable is) where
  pub extents_is : ExtentsAre t.extents (characters_of is)
  extents_is = subst (λ (x : Extents). ExtentsAre x (characters_of is)) (sym k.extents_are) (extents_are is w.all_valid)

  pub known : Known t.extents.fonts.low t.extents.fonts.high is
  known = record { fonts = extents_is.fonts_are; small = λ f u. used_small f is w.all_valid u }

  pub count_is : length is ≡ t.characters + t.cuts
  count_is = omega (arith, k.characters_are, k.cuts_are, all_counted is)

  pub tally_ranged : TallyRanged t
  tally_ranged =
      let p = writing_small is 0 (omega (arith, w.few)) in
      record {
        few = omega (arith, count_is, w.few);
        few_cuts = omega (arith, count_is, w.few);
        ranged = ranged t.extents is extents_is w.all_valid;
        bop_small = omega (arith, k.bop_is, p.bop_before, p.at_small);
      }

  pages_from : (p : Writing) (js : List Item) → (writing_after_all p js).page ≡ p.page + cuts_of js
  unfolding writing_after cuts_of
  pages_from p [] = omega arith
  pages_from p (Placed c ∷ js) = pages_from (writing_after p (Placed c)) js
  pages_from p (Cut ∷ js) = pages_from (writing_after p Cut) js ∙ (omega arith)

  first_page : first_writing.page ≡ 1
  unfolding first_writing
  first_page = refl

  pages_are : t.cuts + 1 ≡ (writing_of is).page
  pages_are = omega (arith, k.cuts_are, pages_from first_writing is, first_page)

  pub post_is : post_of t.bop t.extents (t.cuts + 1) ≡ R.post_of is
  unfolding R.post_of
  post_is = (λ i. post_of (k.bop_is i) t.extents (pages_are i)) ∙ frame-post t.extents is extents_is (writing_of is).bop (writing_of is).page

  pub bop_is : bop_bytes (t.cuts + 2) (pos t.bop) ≡ R.further_bop (writing_of is)
  unfolding R.further_bop
  bop_is = let n : t.cuts + 2 ≡ suc (writing_of is).page = omega (arith, pages_are) in (λ i. bop_bytes (n i) (pos (k.bop_is i)))
