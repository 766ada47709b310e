-- What the calls of the writer and of the reader tell of a reprint.
-- Assumes nothing.
use mathlib.Core.Path.{◌≡◌, refl, sym, ap, ◌∙◌}
use mathlib.Core.List.{List, ◌++◌}
use Prim.Native.Nat.{ℕ, ◌+◌, ◌-◌, ◌*◌, ◌/◌, ◌%◌, ◌≤◌, ◌<◌}
use native.Mathlib.Omega.{arith}
use lib.IntN.{ℤ}
use lib.ListN.{length, take, drop}
use lib.Seq.{take_at}
use Rattle.octets.specs.Octets.{Bytes}
use Rattle.octets.specs.Answer.{Outcome, accepted, refused, written, outcome, buffer_after, no_dvi_room, no_sheet_room}
use Rattle.octets.specs.AnswerLaws.{room_short, room_enough, accepted_length, refused_length, accepted_room, gives}
use Rattle.galley_file.specs.declared.form.Form.TheVariants.{New}
use Rattle.galley_file.specs.Form.{max_galley}
use Rattle.galley_file.specs.Item.{characters_of, cuts_of}
use Rattle.galley_file.specs.Galley.{max_items, Reading, read_galley, items_in, items_of}
use Rattle.galley_file.specs.GalleyLaws.{checked, length_fields}
use Rattle.galley_file.specs.ReadingLaws.{reading_length}
use Rattle.galley_check.specs.Low.{low_outcome}
use Rattle.galley_check.specs.LowLaws.{low_checked}
use Rattle.sheet.specs.Readable.{font_chars}
use Rattle.dvi.specs.Sheet.{sheet_result}
use Rattle.dvi.specs.Writer.{dvi_file}
use Rattle.dvi_writer.specs.Result.{dvi_result}
use Rattle.reprint.specs.Reprint.{stopped, reprinted, reprint_result, of_file, of_sheet, sheet_size, GivesBoth, Reprints}
use Rattle.reprint.specs.ReprintLaws.{reprints, found, file, file_written, shown_sheet, sheet_size_lem, sheet_written, both_written}

-- a refusal's outcomes, and both buffers as they were
pub refuses : (g : List ℕ) (widths : List ℤ) (dvi out : List ℕ) {number place : ℕ} → reprint_result g widths (length dvi) (length out) ≡ stopped number place
    → GivesBoth (refused number place) (refused number place) (reprint_result g widths) dvi dvi out out
refuses g widths dvi out q = record { file_given = gives (ap of_file q) refl refl; sheet_given = gives (ap of_sheet q) refl refl }

-- what is not of characters in a galley is of cuts
module _ (g : List ℕ) (count : ℕ) (e : accepted count ≡ low_outcome g) where
  pub galley_length : length g ≡ 11 * count + 3 * cuts_of (items_of New g) + 7
  unfolding items_of read_galley
  galley_length =
      let c = checked New g count (low_checked g count e).checked in
      let same = ap (λ (r : Reading). cuts_of (items_in r)) c.read in
      omega (arith, same, reading_length New c.items max_items g 0 0 c.read, length_fields New c.items, c.counted)

  pub galley_short : length g ≤ max_galley New
  galley_short = (checked New g count (low_checked g count e).checked).fits

  pub sheet_size_is : 16 * count + 7 * ((length g - 7 - 11 * count) / 3) + 14 ≡ sheet_size (items_of New g)
  unfolding items_of
  sheet_size_is =
      let c = checked New g count (low_checked g count e).checked in
      let same = ap (λ (r : Reading). length (characters_of (items_in r))) c.read in
      omega (arith, galley_length, same, c.counted)

module _ (g : List ℕ) (count : ℕ) (b : Bytes g) (e : low_outcome g ≡ accepted count) where
  pub same_file : file g count b e ≡ dvi_file (items_of New g)
  unfolding items_of
  same_file = ap dvi_file (sym (ap items_in (found g count b e).read))

  -- the sheet's size
  pub sheet_needed : sheet_size (items_of New g) ≡ sheet_size (found g count b e).items
  unfolding items_of
  sheet_needed = ap (λ (r : Reading). sheet_size (items_in r)) (found g count b e).read

  -- the writer's answers name the file's length
  pub accepted_file : (room n : ℕ) → accepted n ≡ outcome (dvi_result g room) → n ≡ length (file g count b e)
  accepted_file room n q = accepted_length no_dvi_room room n (file g count b e) (q ∙ ap outcome (file_written g count b e room))

  pub refused_file : (room number place : ℕ) → refused number place ≡ outcome (dvi_result g room) → (number ≡ no_dvi_room) × ((place ≡ length (file g count b e)) × (room < length (file g count b e)))
  refused_file room number place q = refused_length no_dvi_room room number place (file g count b e) (q ∙ ap outcome (file_written g count b e room))

  -- a buffer that is too short for the file
  pub refused_writing : (widths : List ℤ) (dvi out : List ℕ) (number place : ℕ) {dvi' : List ℕ} → refused number place ≡ outcome (dvi_result g (length dvi)) → dvi' ≡ buffer_after dvi (dvi_result g (length dvi))
      → reprint_result g widths (length dvi) (length out) ≡ stopped no_dvi_room (length (file g count b e)) → GivesBoth (refused number place) (refused number place) (reprint_result g widths) dvi dvi' out out
  refused_writing widths dvi out number place q d k =
      let f = refused_file (length dvi) number place q in
      let kept = d ∙ ap (buffer_after dvi) (file_written g count b e (length dvi) ∙ room_short no_dvi_room (length dvi) (file g count b e) f.1.1) in
      let named : refused number place ≡ refused no_dvi_room (length (file g count b e)) = λ i. refused (f.0 i) (f.1.0 i) in
      record { file_given = gives (ap of_file k) named kept; sheet_given = gives (ap of_sheet k) named refl }

  -- what the writer has written
  module _ (dvi : List ℕ) (n : ℕ) (q : accepted n ≡ outcome (dvi_result g (length dvi))) where
    pub file_fits : length (file g count b e) ≤ length dvi
    file_fits =
        let l = accepted_file (length dvi) n q in
        let h = accepted_room no_dvi_room (length dvi) n (written (file g count b e)) (q ∙ ap outcome (file_written g count b e (length dvi))) in
        omega arith

    pub after_writing : buffer_after dvi (dvi_result g (length dvi)) ≡ file g count b e ++ drop (length (file g count b e)) dvi
    after_writing = ap (buffer_after dvi) (file_written g count b e (length dvi) ∙ room_enough no_dvi_room (length dvi) (file g count b e) file_fits)

    pub written_part : (later : List ℕ) → later ≡ buffer_after dvi (dvi_result g (length dvi)) → take n later ≡ file g count b e
    written_part later k =
        ap (take n) (k ∙ after_writing)
        ∙ take_at (file g count b e) (drop (length (file g count b e)) dvi) n (sym (accepted_file (length dvi) n q))

    -- and what the reader then gives
    module _ (widths : List ℤ) (w : length widths % font_chars ≡ 0) (out : List ℕ) (s : sheet_size (found g count b e).items ≤ length out) where
      whole_reprint : reprint_result g widths (length dvi) (length out) ≡ reprinted (file g count b e) (shown_sheet g count b e widths w)
      whole_reprint = both_written g count b e widths w (length dvi) (length out) file_fits s

      pub reads : (part : List ℕ) → part ≡ file g count b e → sheet_result part widths (length out) ≡ written (shown_sheet g count b e widths w)
      reads part k =
          ap (λ (d : List ℕ). sheet_result d widths (length out)) k
          ∙ sheet_written g count b e widths w (length out)
          ∙ room_enough no_sheet_room (length out) (shown_sheet g count b e widths w) (omega (arith, sheet_size_lem g count b e widths w))

      pub completes : (needed : ℕ) (dvi' out' part : List ℕ) → needed ≡ sheet_size (found g count b e).items → part ≡ file g count b e → dvi' ≡ buffer_after dvi (dvi_result g (length dvi))
          → out' ≡ buffer_after out (sheet_result part widths (length out)) → GivesBoth (accepted n) (accepted needed) (reprint_result g widths) dvi dvi' out out'
      completes needed dvi' out' part z k d y = record {
        file_given = gives (ap of_file whole_reprint) (ap accepted (accepted_file (length dvi) n q)) (d ∙ after_writing);
        sheet_given = gives (ap of_sheet whole_reprint) (ap accepted (z ∙ sym (sheet_size_lem g count b e widths w))) (y ∙ ap (buffer_after out) (reads part k));
      }

-- what a call gives is the reprint, and so demand 3 holds of it
pub claims : (g : List ℕ) (widths : List ℤ) (dvi out : List ℕ) → Bytes g → {for_file for_sheet : Outcome} {dvi' out' : List ℕ} → GivesBoth for_file for_sheet (reprint_result g widths) dvi dvi' out out'
    → Reprints for_file for_sheet g widths dvi dvi' out out'
claims g widths dvi out b o = record { given = o; demand3 = reprints g widths dvi out b o }
