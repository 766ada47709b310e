-- Demand 3 of the edition of 1980, from what its files show: targets are nearest to the true places.
--     demand3          demand 3, with a table of whole fonts
--     sheet_size_lem       how long the sheet is
-- Assumes nothing.
use mathlib.Core.Path.{◌≡◌, refl, ap, ◌∙◌}
use mathlib.Core.List.{List, [], ◌∷◌, map}
use mathlib.Core.Option.{some}
use Prim.Native.Nat.{ℕ, suc, ◌+◌, ◌*◌, ◌%◌}
use native.Mathlib.Omega.{arith}
use lib.IntN.{ℤ, pos, ◌*ℤ◌}
use lib.ListN.{length, length-append}
use Rattle.octets.specs.Answer.{written, if_room, no_sheet_room}
use Rattle.measure.specs.Target.{x_target, y_target}
use Rattle.measure.proofs.TargetLaws.{target_near}
use Rattle.galley_file.specs.declared.item.Item.{Item}
use Rattle.galley_file.specs.declared.item.Item.TheVariants.{Placed, Cut}
use Rattle.galley_file.specs.Item.{characters_of, cuts_of}
use Rattle.sheet.specs.Sheet.{Mark, page_mark}
use Rattle.sheet.specs.Readable.{font_chars}
use Rattle.sheet.specs.Sheet.{mark_field, mark_fields, sheet}
use Rattle.sheet.specs.Shown.{Shown, shown_result}
use Rattle.dvi.specs.Sheet.{sheet_result}
use Rattle.sheet.specs.SheetLaws.{length_mark_field, length_sheet}
use Rattle.dvi.proofs.SheetLaws.{readable}
use Rattle.dvi.specs.Writer.{dvi_file}
use Rattle.dvi.proofs.WriterLaws.{file_fits}
use Rattle.dvi.specs.Edition.{Within, Demand3}
use Rattle.dvi.proofs.EditionLaws.{mark_at, marks_at, demanded}
use Rattle.dvi.specs.Demand3.{in_thirds, shown_in_thirds, dvi1980, character_mark, marks_of}
use Rattle.dvi.proofs.Shown.{file_shows}

-- ---- the demand

-- where an x is shown
abbrev across : ℤ → ℤ
across x = pos 3 *ℤ x_target x

marks_in_thirds : (n : ℕ) (is : List Item) → map in_thirds (marks_of n is) ≡ marks_at across n is
unfolding in_thirds marks_of character_mark marks_at mark_at y_target
marks_in_thirds n [] = refl
marks_in_thirds n (Placed c ∷ is) = ap (λ (ms : List Mark). mark_at across c ∷ ms) (marks_in_thirds n is)
marks_in_thirds n (Cut ∷ is) = ap (λ (ms : List Mark). page_mark (pos (suc n)) ∷ ms) (marks_in_thirds (suc n) is)

module _ (widths : List ℤ) where
  shown : (is : List Item) → Within (dvi1980 widths) is → (dvi1980 widths).show (dvi_file is) ≡ some (page_mark (pos 1) ∷ marks_at across 1 is)
  unfolding shown_in_thirds in_thirds
  shown is w =
      ap shown_in_thirds (file_shows widths w.valid w.few) ∙ ap (λ (ms : List Mark). some (page_mark (pos 1) ∷ ms)) (marks_in_thirds 1 is)

  -- the reader's result
  sheeted : length widths % font_chars ≡ 0 → (is : List Item) → Within (dvi1980 widths) is → (room : ℕ) → sheet_result (dvi_file is) widths room ≡ if_room no_sheet_room room (written (sheet (page_mark (pos 1) ∷ marks_of 1 is)))
  unfolding sheet_result shown_result
  sheeted h is w room = readable (dvi_file is) widths _ (file_fits is w.few) h ∙ ap (λ (x : Shown). if_room no_sheet_room room (shown_result x)) (file_shows widths w.valid w.few)

  pub demand3 : length widths % font_chars ≡ 0 → Demand3 (dvi1980 widths)
  demand3 h = demanded (dvi1980 widths) across (omega arith) target_near (λ is w. file_fits is w.few) shown (sheeted h)

-- ---- the sheet

length_marks : (n : ℕ) (is : List Item) → length (mark_fields (marks_of n is)) ≡ 16 * length (characters_of is) + 7 * cuts_of is
unfolding mark_fields character_mark marks_of characters_of cuts_of
length_marks n [] = refl
length_marks n (Placed c ∷ is) =
    let l = length_mark_field (character_mark c) in
    let r = length_marks n is in
    length-append (mark_field (character_mark c)) (mark_fields (marks_of n is)) ∙ (omega arith)
length_marks n (Cut ∷ is) =
    let l = length_mark_field (page_mark (pos (suc n))) in
    let r = length_marks (suc n) is in
    length-append (mark_field (page_mark (pos (suc n)))) (mark_fields (marks_of (suc n) is)) ∙ (omega arith)

pub sheet_size_lem : (is : List Item) → length (sheet (page_mark (pos 1) ∷ marks_of 1 is)) ≡ 16 * length (characters_of is) + 7 * cuts_of is + 14
unfolding mark_fields
sheet_size_lem is =
    let l = length_mark_field (page_mark (pos 1)) in
    let r = length_marks 1 is in
    let a = length-append (mark_field (page_mark (pos 1))) (mark_fields (marks_of 1 is)) in
    length_sheet (page_mark (pos 1) ∷ marks_of 1 is) ∙ (omega arith)
