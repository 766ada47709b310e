-- The invariant of a pass: the counts and the buffer are those of what the marks so far make (`Tallied`). Where the pass writes, the whole
-- file makes a galley that has room, and so has every part of it (`Fits`).
-- Assumes nothing.
use mathlib.Core.Path.{◌≡◌, refl, sym, ap, ◌∙◌, subst}
use mathlib.Core.Bool.{Bool, true, false, cond}
use mathlib.Core.List.{List, [], ◌∷◌, ◌++◌, append-nil}
use mathlib.Core.Option.{Option, none, some}
use Prim.Native.Nat.{ℕ, ◌+◌, ◌≤◌}
use native.Mathlib.Nat.{suc-ne-zero}
use native.Mathlib.Omega.{arith}
use lib.Dec.{ltb}
use lib.IntN.{ℤ}
use lib.ListN.{length, drop, length-append}
use lib.Seq.{sets}
use Rattle.octets.specs.Answer.{Result, refusal, written, accepted, outcome, outcome_of}
use Rattle.octets.specs.Field.{end_field}
use Rattle.octets.specs.FieldLaws.{length_end}
use Rattle.octets.specs.Write.{put_if, put_if_none, put_if_append}
use Rattle.octets.specs.Pass.{bytes_of, Roomy, Passed}
use Rattle.galley_file.specs.declared.form.Form.TheVariants.{New}
use Rattle.galley_file.specs.declared.item.Item.{Item}
use Rattle.galley_file.specs.declared.item.Item.TheVariants.{Placed, Cut}
use Rattle.galley_file.specs.Item.{item_field, characters_of}
use Rattle.galley_file.specs.Galley.{max_items, fields, galley}
use Rattle.galley_file.specs.GalleyLaws.{length_fields, fields_append, fields_one, length_galley}
use Rattle.sheet.specs.Sheet.{Mark}
use Rattle.sheet.specs.Shown.{ShownAs, refused_at, shows, shows_first}
use Rattle.dvi.specs.File.{run_as, PlacedMark, placed_at, read_placed}
use Rattle.dvi_step.specs.Step.{state_of}
use Rattle.dvi_step.specs.Standing.{Standing}
use Rattle.dvi_step.specs.declared.State.{State}
use Rattle.std.specs.Prelude as P
use Rattle.std.specs.Prelude.{Some, None, Result as ResultOf}
use Rattle.octets.specs.declared.refusal.Refusal.{Refusal}
use Rattle.dvi_galley.specs.Back.{item_shown, Made, nothing, made, broken, pages_of, with_one_item, with_mark, makes, made_result, shown_galley}
use Rattle.dvi_galley.proofs.BackLaws.{makes_append}
use Rattle.dvi_galley.specs.Taken.{taken_of}
use Rattle.dvi_back.specs.Tally.{tally_of, pages_in, place_in, added_by, end_of, tally_reading}
use Rattle.dvi_back.specs.declared.tally.Tally.{Tally}
use Rattle.dvi_back.specs.declared.tally.Tally.TheVariants.{Nothing}

-- ---- room

abbrev pub Fits : ℕ → Made → Type 0
Fits room nothing = Unit {0}
Fits room (made is) = length (fields New is) + 7 ≤ room
Fits room (broken place) = ⊥

length_more : (is : List Item) (i : Item) → length (fields New (is ++ (i ∷ []))) ≡ length (fields New is) + length (item_field New i)
length_more is i =
    ap length (fields_append New is (i ∷ []))
    ∙ length-append (fields New is) (fields New (i ∷ []))
    ∙ ap (λ (l : List ℕ). length (fields New is) + length l) (fields_one New i)

fits_before : (room : ℕ) (b : Made) (at : ℕ) (o : Option Item) → Fits room (with_one_item b at o) → Fits room b
unfolding with_one_item
fits_before room nothing at o f = tt
fits_before room (made is) at none f = absurd f
fits_before room (made is) at (some i) f = go (ltb (length is) max_items) f
  where
    go : (t : Bool) → Fits room (cond t (made (is ++ (i ∷ []))) (broken at)) → length (fields New is) + 7 ≤ room
    go true f = omega (arith, f, length_more is i)
    go false f = absurd f
fits_before room (broken place) at o f = f

fits_makes : (room : ℕ) (ps : List PlacedMark) (b : Made) (bs : List ℕ) → made_result (makes b ps) ≡ written bs → length bs ≤ room → Fits room b
unfolding makes with_mark made_result
fits_makes room [] nothing bs e l = tt
fits_makes room [] (made is) bs e l = let d : galley New is ≡ bs = cc in omega (arith, ap length d, length_galley New is)
fits_makes room [] (broken place) bs e l = absurd (suc-ne-zero 0 cc)
fits_makes room (p ∷ ps) b bs e l = fits_before room b p.place (item_shown (pages_of b) p.mark) (fits_makes room ps (with_mark b p) bs e l)

pub standing_fits : {ws : List ℤ} {s : List ℕ} {l : List ℤ} {q : State} {at : ℕ} {ps : List PlacedMark} → Standing placed_at ws s l q at ps → (room : ℕ) → Roomy (shown_galley (read_placed ws s)) room → Fits room (makes nothing ps)
unfolding shows_first shown_galley
standing_fits {ws} {s} {l} {q} {at} {ps} b room y = go (run_as placed_at ws at (state_of q l) 0 (drop at s)) b.so_far
  where
    go : (r : ShownAs PlacedMark) → read_placed ws s ≡ shows_first ps r → Fits room (makes nothing ps)
    go (refused_at k i) e =
        let f : refusal k i ≡ written (bytes_of (shown_galley (read_placed ws s))) = sym (ap shown_galley e) ∙ y.accepted in
        let z : ◌≡◌ {A = ℕ} 0 1 = cc in
        absurd (omega arith)
    go (shows qs) e =
        fits_makes room qs (makes nothing ps) (bytes_of (shown_galley (read_placed ws s)))
        (ap made_result (sym (makes_append nothing ps qs)) ∙ sym (ap shown_galley e) ∙ y.accepted)
        y.enough

-- ---- the counts and the buffer

abbrev pub fields_of : Made → List ℕ
fields_of nothing = []
fields_of (made is) = fields New is
fields_of (broken place) = []

pub record Tallied (w : Bool) (first out : List ℕ) (b : Made) (g : Tally) : Type 0 where
  pub counted : g ≡ tally_of b
  pub wrote : out ≡ put_if w first 0 (fields_of b)
  pub same : length out ≡ length first

pub tallied_start : (w : Bool) (first : List ℕ) → Tallied w first first nothing Nothing
tallied_start w first = record { counted = refl; wrote = put_if_none w first 0; same = refl }

place_made : (is : List Item) → place_in (tally_of (made is)) ≡ length (fields New is)
place_made is = sym (length_fields New is)

pub more_room : (room : ℕ) (b : Made) (g : Tally) (at : ℕ) (i : P.Option Item) → g ≡ tally_of b → Fits room (with_one_item b at (taken_of i)) → place_in g + length (added_by g i) ≤ room
unfolding with_one_item
more_room room nothing g at i e f = subst (λ (k : Tally). place_in k + length (added_by k i) ≤ room) (sym e) (omega arith)
more_room room (made is) g at None e f = absurd f
more_room room (made is) g at (Some j) e f = subst (λ (k : Tally). place_in k + length (added_by k (Some j)) ≤ room) (sym e) (go (ltb (length is) max_items) f)
  where
    go : (t : Bool) → Fits room (cond t (made (is ++ (j ∷ []))) (broken at)) → place_in (tally_of (made is)) + length (item_field New j) ≤ room
    go true f = omega (arith, f, length_more is j, place_made is)
    go false f = absurd f
more_room room (broken place) g at i e f = absurd f

pub end_room : (room : ℕ) (b : Made) (g : Tally) → g ≡ tally_of b → Fits room b → place_in g + length (end_of g) ≤ room
end_room room nothing g e f = subst (λ (k : Tally). place_in k + length (end_of k) ≤ room) (sym e) (omega arith)
end_room room (made is) g e f = subst (λ (k : Tally). place_in k + length (end_of k) ≤ room) (sym e) (omega (arith, f, place_made is, length_end (length (characters_of is))))
end_room room (broken place) g e f = absurd f

-- what an item adds, where the pass writes: there the whole makes a galley
write_more : (room : ℕ) (first out later : List ℕ) (b : Made) (g : Tally) (at : ℕ) (i : P.Option Item) → g ≡ tally_of b → out ≡ sets first 0 (fields_of b) → later ≡ sets out (place_in g) (added_by g i)
    → Fits room (with_one_item b at (taken_of i)) → later ≡ sets first 0 (fields_of (with_one_item b at (taken_of i)))
unfolding with_one_item fields
write_more room first out later nothing g at None e o l f = absurd f
write_more room first out later nothing g at (Some (Placed c)) e o l f = absurd f
write_more room first out later nothing g at (Some Cut) e o l f = l ∙ ap (λ (k : Tally). sets out (place_in k) (added_by k (Some Cut))) e ∙ o
write_more room first out later (made is) g at None e o l f = absurd f
write_more room first out later (made is) g at (Some j) e o l f = go (ltb (length is) max_items) f
  where
    go : (t : Bool) → Fits room (cond t (made (is ++ (j ∷ []))) (broken at)) → later ≡ sets first 0 (fields_of (cond t (made (is ++ (j ∷ []))) (broken at)))
    go true f =
        put_if_append true first 0 (fields New is) (item_field New j) o (omega (arith, place_made is)) (l ∙ ap (λ (k : Tally). sets out (place_in k) (added_by k (Some j))) e)
        ∙ ap (sets first 0) (ap (λ (r : List ℕ). fields New is ++ r) (sym (fields_one New j)) ∙ sym (fields_append New is (j ∷ [])))
    go false f = absurd f
write_more room first out later (broken place) g at i e o l f = absurd f

module _ {w : Bool} {first out : List ℕ} {b : Made} {g : Tally} (p : Tallied w first out b g) where
  pub tallied_more : (room at : ℕ) (i : P.Option Item) {later : List ℕ} {h : Tally} → later ≡ put_if w out (place_in g) (added_by g i) → length later ≡ length out → (w ≡ true → Fits room (with_one_item b at (taken_of i)))
      → h ≡ tally_of (with_one_item b at (taken_of i)) → Tallied w first later (with_one_item b at (taken_of i)) h
  tallied_more room at i {later} l n f h = record { counted = h; wrote = go w p.wrote l f; same = n ∙ p.same }
    where
      go : (v : Bool) → out ≡ put_if v first 0 (fields_of b) → later ≡ put_if v out (place_in g) (added_by g i) → (v ≡ true → Fits room (with_one_item b at (taken_of i))) → later ≡ put_if v first 0 (fields_of (with_one_item b at (taken_of i)))
      go true o l f = write_more room first out later b g at i p.counted o l (f refl)
      go false o l f = l ∙ o

-- without writing nothing changes
pub tallied_unwritten : {w : Bool} {first out : List ℕ} {b : Made} {g : Tally} → Tallied w first out b g → w ≡ false → out ≡ first
tallied_unwritten {w} {first} {out} {b} p e = p.wrote ∙ ap (λ (v : Bool). put_if v first 0 (fields_of b)) e

pub tallied_named : {w : Bool} {first out : List ℕ} {b d : Made} {g : Tally} → b ≡ d → Tallied w first out b g → Tallied w first out d g
tallied_named {w} {first} {out} {b} {d} {g} e p = subst (λ (k : Made). Tallied w first out k g) e p

-- ---- a command

pages_are : (b : Made) → pages_in (tally_of b) ≡ pages_of b
pages_are nothing = refl
pages_are (made is) = omega arith
pages_are (broken place) = refl

-- one that shows nothing
pub tallied_still : {w : Bool} {first out : List ℕ} {g : Tally} (ps : List PlacedMark) (at : ℕ) → Tallied w first out (makes nothing ps) g → Tallied w first out (makes nothing (ps ++ placed_at at [])) g
unfolding placed_at
tallied_still {w} {first} {out} {g} ps at p = subst (λ (qs : List PlacedMark). Tallied w first out (makes nothing qs) g) (sym (append-nil ps)) p

-- one that shows a mark, and the item that it is
pub marked : (ps : List PlacedMark) (at : ℕ) (m : Mark) (g : Tally) (i : P.Option Item) → g ≡ tally_of (makes nothing ps) → taken_of i ≡ item_shown (pages_in g) m
    → makes nothing (ps ++ placed_at at (m ∷ [])) ≡ with_one_item (makes nothing ps) at (taken_of i)
unfolding placed_at makes with_mark
marked ps at m g i e f =
    let b = makes nothing ps in
    makes_append nothing ps (placed_at at (m ∷ []))
    ∙ ap (λ (n : ℕ). with_one_item b at (item_shown n m)) (sym (ap pages_in e ∙ pages_are b))
    ∙ ap (with_one_item b at) (sym f)

-- the end: what is found, and End in the buffer
finish_found : (b : Made) → outcome_of (tally_reading (tally_of b)) ≡ outcome (made_result b)
unfolding made_result
finish_found nothing = refl
finish_found (made is) = ap accepted (ap (λ (n : ℕ). n + 7) (place_made is) ∙ sym (length_galley New is))
finish_found (broken place) = refl

finish_wrote : (w : Bool) (first out later : List ℕ) (b : Made) → out ≡ put_if w first 0 (fields_of b) → later ≡ put_if w out (place_in (tally_of b)) (end_of (tally_of b))
    → later ≡ put_if w first 0 (bytes_of (made_result b))
unfolding made_result galley
finish_wrote w first out later nothing o l = l ∙ sym (put_if_none w out 0) ∙ o
finish_wrote w first out later (made is) o l = put_if_append w first 0 (fields New is) (end_field (length (characters_of is))) o (omega (arith, place_made is)) l
finish_wrote w first out later (broken place) o l = l ∙ sym (put_if_none w out 0) ∙ o

pub passed_finished : {w : Bool} {first out later : List ℕ} {b : Made} {g : Tally} {r : ResultOf ℕ Refusal} {x : Result} → Tallied w first out b g → x ≡ made_result b → r ≡ tally_reading g → later ≡ put_if w out (place_in g) (end_of g)
    → Passed x w first r later
passed_finished {w} {first} {out} {later} {b} {g} {r} {x} p e f l =
    record {
      found = ap outcome_of (f ∙ ap tally_reading p.counted) ∙ finish_found b ∙ ap outcome (sym e);
      buffer =
          finish_wrote w first out later b p.wrote (l ∙ ap (λ (k : Tally). put_if w out (place_in k) (end_of k)) p.counted)
          ∙ ap (λ (y : Result). put_if w first 0 (bytes_of y)) (sym e);
    }
