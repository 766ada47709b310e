-- One turn: past post, past a further bop, past a character; and a turn from an earlier place.
-- Assumes nothing.
use mathlib.Core.Path.{◌≡◌, sym, ap, subst, ◌∙◌}
use mathlib.Core.List.{List, [], ◌∷◌, ◌++◌}
use mathlib.Core.Option.{some}
use Prim.Native.Nat.{ℕ, ◌+◌, ◌≤◌, ◌<◌}
use native.Mathlib.Omega.{arith}
use lib.IntN.{pos}
use lib.ListN.{length, get_or, drop}
use Rattle.std.specs.Prelude.{Result, Ok, Err}
use Rattle.galley_file.specs.declared.character.Character.{Character}
use Rattle.galley_file.specs.declared.item.Item.{Item}
use Rattle.galley_file.specs.Galley.{max_items}
use Rattle.galley_file.specs.declared.item.Item.TheVariants.{Placed, Cut}
use Rattle.dvi2.specs.Writer.{bop_bytes}
use Rattle.dvi.specs.FontOrNone.{font_or_none}
use Rattle.dvi2_frame.specs.Frame.{post_of}
use Rattle.dvi2_reading.specs.PageReading as Page
use Rattle.dvi2_reading.specs.Reading as R
use Rattle.dvi2_reading.specs.Reading.{in_page, between, closing, closing_of, new_page_state, character_of, further_bop}
use Rattle.dvi2_reading.specs.Reached.{writing_of}
use Rattle.dvi2_reading.specs.Standing.{Standing}
use Rattle.dvi2_reading.proofs.StandingLaws.{here, sole_post, sole_page}
use Rattle.dvi2_state.specs.declared.page_state.PageState.{PageState}
use Rattle.dvi2_state.specs.declared.page_state.Stage.TheVariants.{Ready}
use Rattle.dvi2_state.specs.Page.{page_state_of, page_position}
use Rattle.dvi2_close.specs.declared.expect.NotOurs.{NotOurs}
use Rattle.dvi2_turn.specs.declared.tally.Tally.{Tally}
use Rattle.dvi2_turn.specs.declared.turn.Turn.{Turn}
use Rattle.dvi2_turn.specs.declared.turn.Turn.TheVariants.{Whole, On, Set}
use Rattle.dvi2_turn.specs.Tally.{TallyIs}
use Rattle.dvi2_close.specs.Reading.{expected, ReadsTo}
use Rattle.dvi2_turn.specs.Turn.{Turned}
use Rattle.dvi2_close.proofs.Expected.{expect_reads_to}
use Rattle.dvi2_turn.proofs.Stands.{ready_place, cut_after, put_font}
use Rattle.dvi2_turn.proofs.Tallies.{post_is, bop_is}

module _ (s : List ℕ) (at : ℕ) (t : Tally) (is : List Item) (k : TallyIs t is) (l : at < length s) (st : Standing s (between is) at) where
  first_is : (b : ℕ) (ps : List ℕ) → drop at s ≡ b ∷ ps → b ≡ get_or s at 0
  first_is b ps e = let h = sym e ∙ here s (between is) at st l in cc

  pub post_reads_to : get_or s at 0 ≡ 248 → (e : List ℕ) → e ≡ post_of t.bop t.extents (t.cuts + 1) → (r : Result ℕ NotOurs) → r ≡ expected s at e → ReadsTo s (closing is (closing_of is)) r
  post_reads_to o e q r h =
      subst (ReadsTo s (closing is (closing_of is))) (ap (expected s at) (sym (q ∙ post_is t is k st.reached.writable)) ∙ sym h)
      (expect_reads_to s (between is) (closing is (closing_of is)) at (R.post_of is) st (sole_post (drop at s) is (λ b ps d. first_is b ps d ∙ o)))

  pub page_reads_to : (get_or s at 0 ≡ 248 → ⊥) → length is < max_items → (e : List ℕ) → e ≡ bop_bytes (t.cuts + 2) (pos t.bop) → (r : Result ℕ NotOurs) → r ≡ expected s at e → ReadsTo s (in_page (new_page_state (is ++ (Cut ∷ [])))) r
  page_reads_to o m e q r h =
      subst (ReadsTo s (in_page (new_page_state (is ++ (Cut ∷ []))))) (ap (expected s at) (sym (q ∙ bop_is t is k st.reached.writable)) ∙ sym h)
      (expect_reads_to s (between is) (in_page (new_page_state (is ++ (Cut ∷ [])))) at (further_bop (writing_of is)) st (sole_page (drop at s) is m (λ b ps d f. o (sym (first_is b ps d) ∙ f))))

pub cut_turned : (s : List ℕ) (is : List Item) (at to : ℕ) (h : PageState) → Standing s (between is) at → page_state_of (is ++ (Cut ∷ [])) h ≡ new_page_state (is ++ (Cut ∷ [])) → Standing s (in_page (new_page_state (is ++ (Cut ∷ [])))) to
    → Turned s is at (Ok (Set Cut h to))
unfolding new_page_state
cut_turned s is at to h st e k =
    let p = ready_place s (is ++ (Cut ∷ [])) _ to k in
    (cut_after s is at to st p, (p, subst (λ (g : Page.PageState). Standing s (in_page g) to) (sym e) k))

pub put_turned : (s : List ℕ) (is : List Item) (at : ℕ) (h g : PageState) (code : ℕ) (c : Character)
    → Standing s (in_page (record { items = is ++ (Placed (character_of (page_position h) code) ∷ []); stage = Page.ready; position = page_position h })) (at + 2)
    → ((f : ℕ) → font_or_none h.font ≡ some f → c ≡ character_of (page_position h) code) → g ≡ record { stage = Ready; font = h.font; x = h.x; height = h.height } → Turned s is at (Ok (Set (Placed c) g (at + 2)))
put_turned s is at h g code c k f e =
    let d = character_of (page_position h) code in
    let q : d ≡ c = sym (f d.font (put_font s is d (page_position h) (at + 2) k)) in
    let j : Standing s (in_page (record { items = is ++ (Placed c ∷ []); stage = Page.ready; position = page_position h })) (at + 2) =
    subst (λ (x : Character). Standing s (in_page (record { items = is ++ (Placed x ∷ []); stage = Page.ready; position = page_position h })) (at + 2)) q k in
    (omega arith, (ready_place s (is ++ (Placed c ∷ [])) (page_position h) (at + 2) j, subst (λ (x : PageState). Standing s (in_page (page_state_of (is ++ (Placed c ∷ [])) x)) (at + 2)) (sym e) j))

pub turned_before : (s : List ℕ) (is : List Item) (at to : ℕ) (r : Result Turn NotOurs) → at ≤ to → Turned s is to r → Turned s is at r
turned_before s is at to (Err w) l k = k
turned_before s is at to (Ok Whole) l k = k
turned_before s is at to (Ok (On g next)) l k = (omega (arith, k.0), k.1)
turned_before s is at to (Ok (Set i g next)) l k = (omega (arith, k.0), k.1)
