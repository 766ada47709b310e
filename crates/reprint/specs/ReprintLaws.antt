-- The laws of a reprint: demand 3 of every galley that the check accepts and whose heights are low, and what each refusal is.
-- Assumes nothing.
use Rattle.std.specs.Prelude.{◌≡◌, List, ◌∷◌, ℕ, ◌%◌, ◌≤◌, ◌<◌, ℤ, pos, length}
use Rattle.std.proofs.Common.{sym, subst, ◌∙◌, arith, eq-eqb, ne_eqb}
use Rattle.std.proofs.Math.Path.{ap}
use Rattle.octets.specs.Octets.{Bytes}
use Rattle.octets.specs.Answer.{Outcome, accepted, refused, written, outcome, buffer_after, if_room, widths_not_whole, no_dvi_room, no_sheet_room}
use Rattle.octets.specs.AnswerLaws.{room_refused, room_short, room_enough}
use Rattle.measure.specs.Place.{low_end}
use Rattle.galley_file.specs.declared.form.Form.TheVariants.{New}
use Rattle.galley_file.specs.declared.item.Item.{Item}
use Rattle.galley_file.specs.Galley.{max_items, AllValid, galley, whole, read_galley, items_in, items_of}
use Rattle.galley_file.specs.GalleyLaws.{Accepted, accepted_is}
use Rattle.galley_check.specs.Low.{low_outcome, low_result}
use Rattle.galley_check.specs.LowLaws.{low_checked, low_made, low_refused, low_accepts}
use Rattle.sheet.specs.Sheet.{page_mark}
use Rattle.sheet.specs.Readable.{font_chars}
use Rattle.sheet.specs.Sheet.{sheet}
use Rattle.dvi.specs.Sheet.{sheet_result}
use Rattle.dvi.specs.Writer.{dvi_file}
use Rattle.dvi.specs.Edition.{Faithful, Within}
use Rattle.dvi.specs.Demand3.{marks_of, dvi1980}
use Rattle.dvi.proofs.Demand3.{demand3, sheet_size_lem as size_is}
use Rattle.dvi.proofs.Shown.{file_shows}
use Rattle.dvi_writer.specs.Result.{dvi_result}
use Rattle.reprint.specs.Reprint.{Reprint, stopped, reprinted, sheet_of, file_of, reprint_result, of_file, of_sheet, sheet_size, GivesBoth, ReprintedWhenever, Distinguished}

-- a table of widths that is not of whole fonts decides first
pub not_whole : (g : List ℕ) (widths : List ℤ) (dviRoom sheetRoom : ℕ) → (length widths % font_chars ≡ 0 → ⊥) → reprint_result g widths dviRoom sheetRoom ≡ stopped widths_not_whole 0
unfolding reprint_result
not_whole g widths dviRoom sheetRoom h = rw (ne_eqb _ _ h)

-- with one of whole fonts, the writer decides
module _ (g : List ℕ) (widths : List ℤ) (w : length widths % font_chars ≡ 0) (dviRoom sheetRoom : ℕ) where
  by_writer : reprint_result g widths dviRoom sheetRoom ≡ file_of widths sheetRoom (dvi_result g dviRoom)
  unfolding reprint_result
  by_writer = rw (eq-eqb _ _ w)

  -- a galley that the check of heights refuses
  pub refused_galley : (number place : ℕ) → low_outcome g ≡ refused number place → reprint_result g widths dviRoom sheetRoom ≡ stopped number place
  unfolding dvi_result
  refused_galley number place e =
      by_writer
      ∙ ap (file_of widths sheetRoom) (ap (if_room no_dvi_room dviRoom) (sym (low_refused dvi_file g number place (sym e))) ∙ room_refused no_dvi_room dviRoom number place)

-- a galley that it accepts
module _ (g : List ℕ) (count : ℕ) (b : Bytes g) (e : low_outcome g ≡ accepted count) where
  -- its items
  pub found : Accepted New g count
  found = accepted_is New g count b (sym (low_checked g count (sym e)).checked)

  items_are : items_of New g ≡ found.items
  unfolding items_of
  items_are = ap items_in found.read

  low : AllValid low_end found.items
  low = subst (AllValid low_end) items_are (low_checked g count (sym e)).valid

  few : length found.items ≤ max_items
  few = found.few

  abbrev pub file : List ℕ
  file = dvi_file found.items

  made : low_result dvi_file g ≡ written file
  made = low_made dvi_file g count (sym e) ∙ ap (λ (is : List Item). written (dvi_file is)) items_are

  -- the writer's result
  pub file_written : (room : ℕ) → dvi_result g room ≡ if_room no_dvi_room room (written file)
  unfolding dvi_result
  file_written room = ap (if_room no_dvi_room room) made

  module _ (widths : List ℤ) where
    -- demand 3 over its items
    within : Within (dvi1980 widths) found.items
    within = record { valid = low; few = few }

    module _ (w : length widths % font_chars ≡ 0) where
      pub faithful : Faithful (dvi1980 widths) found.items
      faithful = (demand3 widths w).faithful within

      abbrev pub shown_sheet : List ℕ
      shown_sheet = sheet (page_mark (pos 1) ∷ marks_of 1 found.items)

      pub sheet_size_lem : length shown_sheet ≡ sheet_size found.items
      sheet_size_lem = size_is found.items

      -- the reader's result
      pub sheet_written : (room : ℕ) → sheet_result file widths room ≡ if_room no_sheet_room room (written shown_sheet)
      sheet_written room = faithful.read_back room

      module _ (dviRoom sheetRoom : ℕ) where
        by_file : reprint_result g widths dviRoom sheetRoom ≡ file_of widths sheetRoom (if_room no_dvi_room dviRoom (written file))
        by_file = by_writer g widths w dviRoom sheetRoom ∙ ap (file_of widths sheetRoom) (file_written dviRoom)

        pub short_file : dviRoom < length file → reprint_result g widths dviRoom sheetRoom ≡ stopped no_dvi_room (length file)
        short_file h = by_file ∙ ap (file_of widths sheetRoom) (room_short no_dvi_room dviRoom file h)

        module _ (f : length file ≤ dviRoom) where
          by_sheet : reprint_result g widths dviRoom sheetRoom ≡ sheet_of file (if_room no_sheet_room sheetRoom (written shown_sheet))
          by_sheet = by_file ∙ ap (file_of widths sheetRoom) (room_enough no_dvi_room dviRoom file f) ∙ ap (sheet_of file) (sheet_written sheetRoom)

          pub short_sheet : sheetRoom < sheet_size found.items → reprint_result g widths dviRoom sheetRoom ≡ stopped no_sheet_room (sheet_size found.items)
          short_sheet h =
              by_sheet
              ∙ ap (sheet_of file) (room_short no_sheet_room sheetRoom shown_sheet (omega (arith, sheet_size_lem)))
              ∙ ap (stopped no_sheet_room) sheet_size_lem

          pub both_written : sheet_size found.items ≤ sheetRoom → reprint_result g widths dviRoom sheetRoom ≡ reprinted file shown_sheet
          both_written h = by_sheet ∙ ap (sheet_of file) (room_enough no_sheet_room sheetRoom shown_sheet (omega (arith, sheet_size_lem)))

-- demand 3, from the galley's bytes to the sheet's, of every call that gives the result
pub reprints : (g : List ℕ) (widths : List ℤ) (dvi out : List ℕ) → Bytes g → {for_file for_sheet : Outcome} {dvi' out' : List ℕ} → GivesBoth for_file for_sheet (reprint_result g widths) dvi dvi' out out'
    → ReprintedWhenever for_file for_sheet g widths dvi dvi' out out'
reprints g widths dvi out b o count is c read_as v w f s =
    let e = low_accepts g count is c read_as v in
    let a = found g count b e in
    let t = faithful g count b e widths w in
    let same : a.items ≡ is = (let h : whole a.items ≡ whole is = sym a.read ∙ read_as in cc) in
    let room : length (dvi_file a.items) ≤ length dvi = omega (arith, f, ap (λ (l : List Item). length (dvi_file l)) same) in
    let fits : sheet_size a.items ≤ length out = omega (arith, s, ap sheet_size same) in
    let done = both_written g count b e widths w (length dvi) (length out) room fits in
    record {
      items = a.items;
      galley_is = a.bytes;
      valid = low g count b e;
      writer_accepts = file_written g count b e (length dvi) ∙ room_enough no_dvi_room (length dvi) (dvi_file a.items) room;
      file_is = o.file_given.buffer_is ∙ ap (λ (r : Reprint). buffer_after dvi (of_file r)) done;
      faithful = t;
      marks = marks_of 1 a.items;
      shown = file_shows widths (low g count b e) (few g count b e);
      reader_accepts = t.read_back (length out) ∙ room_enough no_sheet_room (length out) (sheet (page_mark (pos 1) ∷ marks_of 1 a.items)) (omega (arith, fits, size_is a.items));
      sheet_is = o.sheet_given.buffer_is ∙ ap (λ (r : Reprint). buffer_after out (of_sheet r)) done;
      file_length = o.file_given.outcome_is ∙ ap (λ (r : Reprint). outcome (of_file r)) done;
      sheet_length = o.sheet_given.outcome_is ∙ ap (λ (r : Reprint). outcome (of_sheet r)) done ∙ ap accepted (size_is a.items);
    }

-- two such galleys, and what their files show
module _ (g h : List ℕ) (n m : ℕ) (bg : Bytes g) (bh : Bytes h) (eg : low_outcome g ≡ accepted n) (eh : low_outcome h ≡ accepted m) where
  pub distinguished : (widths : List ℤ) → length widths % font_chars ≡ 0 → (p : Faithful (dvi1980 widths) (found g n bg eg).items) (q : Faithful (dvi1980 widths) (found h m bh eh).items)
      → Distinguished widths g h (found g n bg eg).items (found h m bh eh).items p.marks q.marks
  distinguished widths w p q =
      let a = found g n bg eg in
      let c = found h m bh eh in
      let k = (demand3 widths w).compared (within g n bg eg widths) (within h m bh eh widths) p.shown q.shown in
      record {
        same_file = (
          λ f. a.bytes ∙ ap (galley New) (k.same_file.0 f) ∙ sym c.bytes,
          λ f. ap dvi_file (let r : whole a.items ≡ whole c.items = sym a.read ∙ ap (read_galley New) f ∙ c.read in cc),
        );
        compared = k;
      }
