-- The galley of what a file shows: there is one exactly where `makes` finds one, and then only that.
--     makes_broken, makes_append     a broken condition stays; marks one list after another
--     makes_exactly                  the marks make these items exactly if these are the galley whose targets they show
--     only_galley                    there is at most one
--     back_written                   a file that our own writer made gives back its galley
-- Assumes nothing.
use Rattle.std.specs.Prelude.{◌↔◌, ◌≡◌, refl, Bool, cond, ℕ, suc, ◌+◌, ◌%◌, ◌≤◌, ◌<◌, ltb, ℤ, pos}
use Rattle.std.proofs.Math.Path.{sym, ap}
use Rattle.std.proofs.Common.{subst, ◌∙◌, suc-ne-zero, arith, lt-ltb, ltb-true, length-append}
use mathlib.Core.List.{List, [], ◌∷◌, ◌++◌, map, append-nil, append_assoc}
use Rattle.std.proofs.Math.Option.{Option, none, some}
use Rattle.std.proofs.Math.ListN.{length}
use Rattle.octets.specs.Octets.{Bytes}
use Rattle.octets.specs.OctetsLaws.{by_cond}
use Rattle.octets.specs.Answer.{accepted, written, if_room, no_galley_room}
use Rattle.measure.specs.Place.{height_end, low_end}
use Rattle.galley_file.specs.declared.item.Item.{Item}
use Rattle.galley_file.specs.declared.item.Item.TheVariants.{Placed, Cut}
use Rattle.galley_file.specs.Item.{cuts_of}
use Rattle.galley_file.specs.ItemLaws.{cuts_append}
use Rattle.galley_file.specs.declared.form.Form.TheVariants.{New}
use Rattle.galley_file.specs.Galley.{max_items, AllValid, nil, more, galley, items_in, items_of}
use Rattle.galley_file.specs.GalleyLaws.{accepted_is}
use Rattle.galley_check.specs.Low.{low_outcome, low_result}
use Rattle.galley_check.specs.LowLaws.{raised, low_checked, low_made}
use Rattle.sheet.specs.Sheet.{Mark, page_mark}
use Rattle.sheet.specs.Readable.{max_file, font_chars}
use Rattle.sheet.specs.Shown.{ShownAs, refused_at, shows}
use Rattle.dvi.specs.File.{read_dvi, PlacedMark, mark_in, placed_at, read_placed, unplaced}
use Rattle.dvi.proofs.FileLaws.{unplaced_read}
use Rattle.dvi.proofs.SheetLaws.{readable}
use Rattle.dvi.specs.Writer.{dvi_file}
use Rattle.dvi.proofs.WriterLaws.{file_fits}
use Rattle.dvi.proofs.Shown.{file_shows}
use Rattle.dvi.specs.Demand3.{marks_of}
use Rattle.dvi_galley.specs.Back.{item_shown, Made, nothing, made, broken, with_one_item, with_mark, makes, made_result, shown_galley, back_result, GalleyOf}
use Rattle.dvi_galley.proofs.MarkLaws.{item_mark, marks_of_next, item_is, is_item_lem}

-- ---- marks and items

-- items and what they are made of
record More (ms : List Mark) (is js : List Item) : Type 0 where
  pub items : List Item
  pub are : js ≡ is ++ items
  pub marks_are : ms ≡ marks_of (suc (cuts_of is)) items
  pub all_valid : AllValid height_end items
  pub few : length is ≤ max_items → length js ≤ max_items

pub makes_broken : (place : ℕ) (ps : List PlacedMark) → makes (broken place) ps ≡ broken place
unfolding makes with_mark with_one_item
makes_broken place [] = refl
makes_broken place (p ∷ ps) = makes_broken place ps

pages_more : (is : List Item) (i : Item) → suc (cuts_of (is ++ (i ∷ []))) ≡ suc (cuts_of is) + cuts_of (i ∷ [])
pages_more is i = omega (arith, cuts_append is (i ∷ []))

pub makes_append : (b : Made) (ps qs : List PlacedMark) → makes b (ps ++ qs) ≡ makes (makes b ps) qs
unfolding makes
makes_append b [] qs = refl
makes_append b (p ∷ ps) qs = makes_append (with_mark b p) ps qs

next_more : (p : PlacedMark) (ms : List Mark) (is js : List Item) (i : Item) → item_shown (suc (cuts_of is)) p.mark ≡ some i → length is < max_items
    → More ms (is ++ (i ∷ [])) js → More (p.mark ∷ ms) is js
next_more p ms is js i e l r =
    let d = item_is (suc (cuts_of is)) p.mark i e in
    record {
      items = i ∷ r.items;
      are = r.are ∙ append_assoc is (i ∷ []) r.items;
      marks_are =
          (λ k. d.0 k ∷ r.marks_are k)
          ∙ ap (λ (n : ℕ). item_mark (suc (cuts_of is)) i ∷ marks_of n r.items) (pages_more is i)
          ∙ sym (marks_of_next (suc (cuts_of is)) i r.items);
      all_valid = more d.1 r.all_valid;
      few = λ h. r.few (omega (arith, length-append is (i ∷ [])));
    }

broken_not : {place : ℕ} {js : List Item} → broken place ≡ made js → ⊥
broken_not e = suc-ne-zero 0 cc

made_more : (ps : List PlacedMark) (is js : List Item) → makes (made is) ps ≡ made js → More (map mark_in ps) is js
unfolding makes with_mark with_one_item marks_of
made_more [] is js e =
    let s : is ≡ js = cc in
    record { items = []; are = sym s ∙ sym (append-nil is); marks_are = refl; all_valid = nil; few = λ h. omega (arith, ap length s) }
made_more (p ∷ ps) is js e = go (item_shown (suc (cuts_of is)) p.mark) refl e (λ ks. made_more ps ks js)
  where
    go : (o : Option Item) → item_shown (suc (cuts_of is)) p.mark ≡ o → makes (with_one_item (made is) p.place o) ps ≡ made js
        → ((ks : List Item) → makes (made ks) ps ≡ made js → More (map mark_in ps) ks js) → More (p.mark ∷ map mark_in ps) is js
    go none q f r = absurd (broken_not (sym (makes_broken p.place ps) ∙ f))
    go (some i) q f r =
        by_cond (λ (b : Made). makes b ps ≡ made js → More (p.mark ∷ map mark_in ps) is js) (ltb (length is) max_items) (made (is ++ (i ∷ []))) (broken p.place)
        (λ t g. next_more p (map mark_in ps) is js i q (ltb-true _ _ t) (r (is ++ (i ∷ [])) g))
        (λ t g. absurd (broken_not (sym (makes_broken p.place ps) ∙ g)))
        f

more_made : (ks is : List Item) (ps : List PlacedMark) → AllValid height_end ks → length is + length ks ≤ max_items → map mark_in ps ≡ marks_of (suc (cuts_of is)) ks
    → makes (made is) ps ≡ made (is ++ ks)
unfolding makes with_mark with_one_item marks_of
more_made [] is [] v l e = ap made (sym (append-nil is))
more_made [] is (p ∷ ps) v l e = cc
more_made (k ∷ ks) is [] v l e = let d = e ∙ marks_of_next (suc (cuts_of is)) k ks in cc
more_made (k ∷ ks) is (p ∷ ps) (more v vs) l e =
    let n = suc (cuts_of is) in
    let d : p.mark ∷ map mark_in ps ≡ item_mark n k ∷ marks_of (n + cuts_of (k ∷ [])) ks = e ∙ marks_of_next n k ks in
    let m : p.mark ≡ item_mark n k = cc in
    let r : map mark_in ps ≡ marks_of (n + cuts_of (k ∷ [])) ks = cc in
    let s : map mark_in ps ≡ marks_of (suc (cuts_of (is ++ (k ∷ [])))) ks = r ∙ ap (λ (j : ℕ). marks_of j ks) (sym (pages_more is k)) in
    ap (λ (o : Option Item). makes (with_one_item (made is) p.place o) ps) (ap (item_shown n) m ∙ is_item_lem n k v)
    ∙ ap (λ (b : Bool). makes (cond b (made (is ++ (k ∷ []))) (broken p.place)) ps) (lt-ltb (length is) max_items (omega arith))
    ∙ more_made ks (is ++ (k ∷ [])) ps vs (omega (arith, length-append is (k ∷ []))) s
    ∙ ap made (append_assoc is (k ∷ []) ks)

-- ---- the whole

first_made : (p : PlacedMark) (ps : List PlacedMark) (is : List Item) (o : Option Item) → item_shown 0 p.mark ≡ o
    → makes (with_one_item nothing p.place o) ps ≡ made is → GalleyOf (p.mark ∷ map mark_in ps) is
unfolding with_one_item cuts_of
first_made p ps is none q e = absurd (broken_not (sym (makes_broken p.place ps) ∙ e))
first_made p ps is (some (Placed c)) q e = absurd (broken_not (sym (makes_broken p.place ps) ∙ e))
first_made p ps is (some Cut) q e =
    let r = made_more ps [] is e in
    let m = (item_is 0 p.mark Cut q).0 in
    let s : r.items ≡ is = sym r.are in
    record {
      targets = (λ k. m k ∷ r.marks_are k) ∙ ap (λ (js : List Item). page_mark (pos 1) ∷ marks_of 1 js) s;
      all_valid = subst (AllValid height_end) s r.all_valid;
      few = r.few (omega arith);
    }

made_galley : (ps : List PlacedMark) (is : List Item) → makes nothing ps ≡ made is → GalleyOf (map mark_in ps) is
unfolding makes with_mark
made_galley [] is e = absurd (suc-ne-zero 0 cc)
made_galley (p ∷ ps) is e = first_made p ps is (item_shown 0 p.mark) refl e

galley_made : (ps : List PlacedMark) (is : List Item) → GalleyOf (map mark_in ps) is → makes nothing ps ≡ made is
unfolding makes with_mark with_one_item cuts_of
galley_made [] is g = let e = g.targets in cc
galley_made (p ∷ ps) is g =
    let e : p.mark ∷ map mark_in ps ≡ page_mark (pos 1) ∷ marks_of 1 is = g.targets in
    let m : p.mark ≡ page_mark (pos 1) = cc in
    let r : map mark_in ps ≡ marks_of 1 is = cc in
    ap (λ (o : Option Item). makes (with_one_item nothing p.place o) ps) (ap (item_shown 0) m ∙ is_item_lem 0 Cut refl)
    ∙ more_made is [] ps g.all_valid (omega (arith, g.few)) r

pub makes_exactly : (ps : List PlacedMark) (is : List Item) → (makes nothing ps ≡ made is) ↔ GalleyOf (map mark_in ps) is
makes_exactly ps is = (made_galley ps is, galley_made ps is)

marks_placed : (at : ℕ) (ms : List Mark) → map mark_in (placed_at at ms) ≡ ms
unfolding placed_at
marks_placed at [] = refl
marks_placed at (m ∷ ms) = ap (λ (ns : List Mark). m ∷ ns) (marks_placed at ms)

placed_galley : (ms : List Mark) (is : List Item) → GalleyOf ms is → makes nothing (placed_at 0 ms) ≡ made is
placed_galley ms is g = galley_made (placed_at 0 ms) is (subst (λ (ns : List Mark). GalleyOf ns is) (sym (marks_placed 0 ms)) g)

-- "Then there is only one"
pub only_galley : (ms : List Mark) (is js : List Item) → GalleyOf ms is → GalleyOf ms js → is ≡ js
only_galley ms is js g h =
    let e : made is ≡ made js = sym (placed_galley ms is g) ∙ placed_galley ms js h in
    cc

-- ---- files

module _ (dvi : List ℕ) (widths : List ℤ) (l : length dvi ≤ max_file) (w : length widths % font_chars ≡ 0) where
  shown_marks : {ms : List Mark} → read_dvi widths dvi ≡ shows ms → (ps : List PlacedMark) × ((read_placed widths dvi ≡ shows ps) × (map mark_in ps ≡ ms))
  shown_marks {ms} e = go (read_placed widths dvi) refl (unplaced_read widths dvi ∙ e)
    where
      go : (x : ShownAs PlacedMark) → read_placed widths dvi ≡ x → unplaced x ≡ shows ms
          → (ps : List PlacedMark) × ((read_placed widths dvi ≡ shows ps) × (map mark_in ps ≡ ms))
      go (refused_at k at) q f = absurd (suc-ne-zero 0 cc)
      go (shows ps) q f = (ps, (q, cc))

  pub back_shown : {ms : List Mark} {is : List Item} → read_dvi widths dvi ≡ shows ms → GalleyOf ms is → (room : ℕ)
      → back_result dvi widths room ≡ if_room no_galley_room room (written (galley New is))
  unfolding back_result shown_galley made_result
  back_shown {ms} {is} e g room =
      let s = shown_marks e in
      let m = galley_made s.0 is (subst (λ (ns : List Mark). GalleyOf ns is) (sym s.1.1) g) in
      readable dvi widths (if_room no_galley_room room (shown_galley (read_placed widths dvi))) l w
      ∙ ap (λ (x : ShownAs PlacedMark). if_room no_galley_room room (shown_galley x)) s.1.0
      ∙ ap (λ (b : Made). if_room no_galley_room room (made_result b)) m

-- a file that our own writer made of valid items of low heights
module _ (widths : List ℤ) (w : length widths % font_chars ≡ 0) where
  pub back_file : {is : List Item} → AllValid low_end is → length is ≤ max_items → (room : ℕ)
      → back_result (dvi_file is) widths room ≡ if_room no_galley_room room (written (galley New is))
  back_file {is} v h room =
      back_shown (dvi_file is) widths (file_fits is h) w (file_shows widths v h) (record { targets = refl; all_valid = raised v; few = h }) room

  -- "A file that our own writer made gives back its galley"
  pub back_written : (g file : List ℕ) (count : ℕ) → Bytes g → accepted count ≡ low_outcome g → low_result dvi_file g ≡ written file → (room : ℕ)
      → back_result file widths room ≡ if_room no_galley_room room (written g)
  unfolding items_of
  back_written g file count b e q room =
      let c = low_checked g count e in
      let a = accepted_is New g count b (sym c.checked) in
      let s : items_of New g ≡ a.items = ap items_in a.read in
      let f : written (dvi_file (items_of New g)) ≡ written file = sym (low_made dvi_file g count e) ∙ q in
      let d : dvi_file (items_of New g) ≡ file = cc in
      ap (λ (x : List ℕ). back_result x widths room) (sym d)
      ∙ back_file c.valid (omega (arith, a.few, ap length s)) room
      ∙ ap (λ (is : List Item). if_room no_galley_room room (written (galley New is))) s
      ∙ ap (λ (x : List ℕ). if_room no_galley_room room (written x)) (sym a.bytes)
