-- What a call gives, in the terms of the format: the galley that the file shows, or 45 at the first command that breaks a condition.
--     first_break        of marks that make no galley
--     galley_checked     the check accepts a galley that is shown
--     written_galley     what a call writes
--     refused_first      where a call gives 45
-- Assumes nothing.
use Rattle.std.specs.Prelude.{◌⊎◌, ℕ, ◌%◌, ◌≤◌, ltb, ℤ, length}
use Rattle.std.proofs.Common.{inl, inr, sym, subst, ◌∙◌, arith}
use Rattle.std.proofs.Math.Path.{◌≡◌, refl, ap}
use Rattle.std.proofs.Math.Bool.{cond}
use mathlib.Core.List.{List, [], ◌∷◌, ◌++◌, map}
use Rattle.std.proofs.Math.Option.{Option, none, some}
use Rattle.std.proofs.Math.Nat.{suc-ne-zero}
use Rattle.octets.specs.Answer.{accepted, Result, refusal, written, if_room, no_galley, no_galley_room}
use Rattle.octets.specs.OctetsLaws.{by_cond}
use Rattle.galley_file.specs.declared.form.Form.TheVariants.{New}
use Rattle.galley_file.specs.declared.item.Item.{Item}
use Rattle.galley_file.specs.declared.item.Item.TheVariants.{Placed, Cut}
use Rattle.galley_file.specs.Item.{characters_of}
use Rattle.galley_file.specs.Galley.{max_items, galley}
use Rattle.galley_file.specs.GalleyLaws.{accepts_check}
use Rattle.galley_file.specs.Outcome.{check_outcome}
use Rattle.sheet.specs.Sheet.{Mark}
use Rattle.sheet.specs.Shown.{ShownAs, shows}
use Rattle.dvi.specs.File.{read_dvi, PlacedMark, mark_in, read_placed, unplaced}
use Rattle.dvi.proofs.FileLaws.{unplaced_read}
use Rattle.sheet.specs.Readable.{max_file, font_chars}
use Rattle.dvi.proofs.SheetLaws.{readable}
use Rattle.dvi_galley.specs.Back.{item_shown, Made, nothing, made, broken, pages_of, with_one_item, with_mark, makes, made_result, shown_galley, back_result, GalleyOf, FirstBreak}
use Rattle.dvi_galley.proofs.BackLaws.{makes_broken, makes_append, makes_exactly}
use Rattle.dvi_galley.proofs.ExistsLaws.{PageFirst, FirstIn, shows_page}

-- ---- the first command that breaks one

-- none is broken yet
abbrev Unbroken : Made → Type 0
Unbroken nothing = Unit {0}
Unbroken (made is) = Unit {0}
Unbroken (broken place) = ⊥

-- if one is broken, the command at `at` broke it
abbrev BrokenAt : ℕ → Made → Type 0
BrokenAt at nothing = Unit {0}
BrokenAt at (made is) = Unit {0}
BrokenAt at (broken place) = at ≡ place

broken_at : (b : Made) (at : ℕ) (o : Option Item) → Unbroken b → BrokenAt at (with_one_item b at o)
unfolding with_one_item
broken_at nothing at none a = refl
broken_at nothing at (some (Placed c)) a = refl
broken_at nothing at (some Cut) a = tt
broken_at (made is) at none a = refl
broken_at (made is) at (some i) a = by_cond (BrokenAt at) (ltb (length is) max_items) (made (is ++ (i ∷ []))) (broken at) (λ _. tt) (λ _. refl)
broken_at (broken place) at o a = absurd a

record Split (b : Made) (ps : List PlacedMark) (place : ℕ) : Type 0 where
  pub behind : List PlacedMark
  pub breaks : PlacedMark
  pub ahead : List PlacedMark
  pub split : ps ≡ behind ++ (breaks ∷ ahead)
  pub place_is : breaks.place ≡ place
  pub unbroken : Unbroken (makes b behind)
  pub broke : with_mark (makes b behind) breaks ≡ broken place

split_at : (ps : List PlacedMark) (b : Made) (place : ℕ) → Unbroken b → makes b ps ≡ broken place → Split b ps place
unfolding makes with_mark
split_at [] nothing place a e = absurd (suc-ne-zero 0 cc)
split_at [] (made is) place a e = absurd (suc-ne-zero 0 cc)
split_at [] (broken p) place a e = absurd a
split_at (p ∷ ps) b place a e = go (with_one_item b p.place (item_shown (pages_of b) p.mark)) refl e (λ c. split_at ps c place)
  where
    later : (c : Made) → with_one_item b p.place (item_shown (pages_of b) p.mark) ≡ c → Split c ps place → Split b (p ∷ ps) place
    later c q s =
        let m : makes b (p ∷ s.behind) ≡ makes c s.behind = ap (λ (d : Made). makes d s.behind) q in
        record {
          behind = p ∷ s.behind;
          breaks = s.breaks;
          ahead = s.ahead;
          split = ap (λ (l : List PlacedMark). p ∷ l) s.split;
          place_is = s.place_is;
          unbroken = subst Unbroken (sym m) s.unbroken;
          broke = ap (λ (d : Made). with_mark d s.breaks) m ∙ s.broke;
        }

    go : (c : Made) → with_one_item b p.place (item_shown (pages_of b) p.mark) ≡ c → makes c ps ≡ broken place
        → ((d : Made) → Unbroken d → makes d ps ≡ broken place → Split d ps place) → Split b (p ∷ ps) place
    go nothing q f r = later nothing q (r nothing tt f)
    go (made is) q f r = later (made is) q (r (made is) tt f)
    go (broken k) q f r =
        let d : broken k ≡ broken place = sym (makes_broken k ps) ∙ f in
        let h : k ≡ place = cc in
        record {
          behind = [];
          breaks = p;
          ahead = ps;
          split = refl;
          place_is = subst (BrokenAt p.place) q (broken_at b p.place (item_shown (pages_of b) p.mark) a) ∙ h;
          unbroken = a;
          broke = q ∙ d;
        }

-- a mark makes something
abbrev Something : Made → Type 0
Something nothing = ⊥
Something (made is) = Unit {0}
Something (broken place) = Unit {0}

something : (b : Made) (at : ℕ) (o : Option Item) → Something (with_one_item b at o)
unfolding with_one_item
something nothing at none = tt
something nothing at (some (Placed c)) = tt
something nothing at (some Cut) = tt
something (made is) at none = tt
something (made is) at (some i) = by_cond Something (ltb (length is) max_items) (made (is ++ (i ∷ []))) (broken at) (λ _. tt) (λ _. tt)
something (broken place) at o = tt

still_something : (ps : List PlacedMark) (b : Made) → Something b → Something (makes b ps)
unfolding makes with_mark
still_something [] b s = s
still_something (p ∷ ps) b s = still_something ps (with_mark b p) (something b p.place (item_shown (pages_of b) p.mark))

only_none : (ps : List PlacedMark) → makes nothing ps ≡ nothing → ps ≡ []
unfolding makes with_mark
only_none [] e = refl
only_none (p ∷ ps) e =
    absurd (subst Something e (still_something ps (with_mark nothing p) (something nothing p.place (item_shown 0 p.mark))))

pub first_break : (ps : List PlacedMark) (place : ℕ) → makes nothing ps ≡ broken place → FirstBreak ps place
unfolding makes
first_break ps place e =
    let s = split_at ps nothing place tt e in
    record {
      behind = s.behind;
      breaks = s.breaks;
      ahead = s.ahead;
      split = s.split;
      place_is = s.place_is;
      good_before = good s.behind (makes nothing s.behind) refl s.unbroken;
      bad_with = λ is g.
          let f : broken place ≡ made is = sym (makes_append nothing s.behind (s.breaks ∷ []) ∙ s.broke) ∙ (makes_exactly (s.behind ++ (s.breaks ∷ [])) is).1 g in
          let z : ◌≡◌ {A = ℕ} 0 1 = cc in
          omega arith;
    }
  where
    good : (qs : List PlacedMark) (b : Made) → makes nothing qs ≡ b → Unbroken b → (qs ≡ []) ⊎ ((is : List Item) × GalleyOf (map mark_in qs) is)
    good qs nothing q a = inl (only_none qs q)
    good qs (made is) q a = inr (is, (makes_exactly qs is).0 q)
    good qs (broken p) q a = absurd a

-- ---- what a call gives

-- the galley is one that the check accepts
pub galley_checked : {ms : List Mark} {is : List Item} → GalleyOf ms is → check_outcome New (galley New is) ≡ accepted (length (characters_of is))
galley_checked {ms} {is} g = accepts_check New is g.all_valid g.few

module _ (dvi : List ℕ) (widths : List ℤ) (room : ℕ) (ps : List PlacedMark) (l : length dvi ≤ max_file) (w : length widths % font_chars ≡ 0) (e : read_placed widths dvi ≡ shows ps) where
  by_marks : back_result dvi widths room ≡ if_room no_galley_room room (made_result (makes nothing ps))
  unfolding back_result shown_galley
  by_marks = readable dvi widths (if_room no_galley_room room (shown_galley (read_placed widths dvi))) l w ∙ ap (λ (x : ShownAs PlacedMark). if_room no_galley_room room (shown_galley x)) e

  -- what is written is the galley whose targets the file shows
  pub written_galley : {g : List ℕ} → back_result dvi widths room ≡ written g → (is : List Item) × (GalleyOf (map mark_in ps) is × (g ≡ galley New is))
  unfolding made_result if_room
  written_galley {g} f = go (makes nothing ps) refl (sym by_marks ∙ f)
    where
      go : (b : Made) → makes nothing ps ≡ b → if_room no_galley_room room (made_result b) ≡ written g
          → (is : List Item) × (GalleyOf (map mark_in ps) is × (g ≡ galley New is))
      go nothing q f = absurd (suc-ne-zero 0 cc)
      go (made is) q f = (
        is,
        (
          (makes_exactly ps is).0 q,
          by_cond (λ (r : Result). r ≡ written g → g ≡ galley New is) (ltb room (length (galley New is))) (refusal no_galley_room (length (galley New is))) (written (galley New is))
              (λ _ h. absurd (suc-ne-zero 0 cc))
              (λ _ h. cc)
              f,
        ),
      )
      go (broken k) q f = absurd (suc-ne-zero 0 cc)

  -- "45 at the first command that breaks one of these conditions"
  pub refused_first : {place : ℕ} → back_result dvi widths room ≡ refusal no_galley place → FirstBreak ps place
  unfolding made_result if_room
  refused_first {place} f = go (makes nothing ps) refl (sym by_marks ∙ f)
    where
      no_room : (bs : List ℕ) → cond (ltb room (length bs)) (refusal no_galley_room (length bs)) (written bs) ≡ refusal no_galley place → ⊥
      no_room bs f =
          by_cond (λ (r : Result). r ≡ refusal no_galley place → ⊥) (ltb room (length bs)) (refusal no_galley_room (length bs)) (written bs)
          (λ _ g. let n : ◌≡◌ {A = ℕ} 12 45 = cc in omega (arith, n))
          (λ _ g. suc-ne-zero 0 cc)
          f

      go : (b : Made) → makes nothing ps ≡ b → if_room no_galley_room room (made_result b) ≡ refusal no_galley place → FirstBreak ps place
      go nothing q f =
          let n = only_none ps q in
          let s : read_dvi widths dvi ≡ shows [] = sym (unplaced_read widths dvi) ∙ ap unplaced e ∙ ap (λ (qs : List PlacedMark). shows (map mark_in qs)) n in
          let p : PageFirst [] = subst FirstIn s (shows_page widths dvi) in
          let h = p.first_is in
          let z : ◌≡◌ {A = ℕ} 0 1 = cc in
          absurd (omega arith)
      go (made is) q f = absurd (no_room (galley New is) f)
      go (broken k) q f = let h : k ≡ place = cc in first_break ps place (q ∙ ap broken h)
