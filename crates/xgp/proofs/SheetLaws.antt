-- What a call gives, by the tests of the whole call; and that an accepted file's sheet lists exactly what it shows.
--     too_long, not_four, some_negative, readable     the tests, one by one
--     Listed, listed                                  of an accepted call
-- Assumes nothing.
use Rattle.std.specs.Prelude.{◌≡◌, Bool, List, ℕ, ◌*◌, ◌≤◌, ◌<◌, ℤ, length}
use Rattle.std.proofs.Math.Path.{refl, ap}
use Rattle.std.proofs.Common.{◌∙◌, suc-ne-zero, ltb-false, eq-eqb, ne_eqb, eqb-true}
use Rattle.std.proofs.Math.Bool.{true, false, cond}
use Rattle.std.proofs.Math.Dec.{ltb}
use Rattle.octets.specs.Answer.{refusal, written, if_room, file_too_long, widths_not_whole, no_sheet_room, negative_width}
use Rattle.octets.specs.AnswerLaws.{room_made}
use Rattle.sheet.specs.Sheet.{Mark, sheet}
use Rattle.sheet.specs.Shown.{Shown, refused_at, shows, shown_result}
use Rattle.sheet.specs.Readable.{max_file, font_chars, if_readable}
use Rattle.sheet.specs.ReadableLaws as R
use Rattle.xgp.specs.File.{read_xgp}
use Rattle.xgp.specs.Sheet.{four_fonts, any_negative, shown_sheet, xgp_result}
use Rattle.xgp.proofs.PagedLaws.{Paged, paged}
use Rattle.xgp.proofs.PlacedLaws.{Placed, placed}

-- ---- the tests of the whole call

module _ (file : List ℕ) (spacing : ℕ) (widths : List ℤ) (room : ℕ) where
  pub too_long : max_file < length file → xgp_result file spacing widths room ≡ refusal file_too_long 0
  unfolding xgp_result
  too_long h = R.too_long file (four_fonts widths) (shown_sheet file spacing widths room) h

  module _ (h : length file ≤ max_file) where
    pub not_four : (length widths ≡ 4 * font_chars → ⊥) → xgp_result file spacing widths room ≡ refusal widths_not_whole 0
    unfolding xgp_result
    not_four e = R.not_whole file (four_fonts widths) (shown_sheet file spacing widths room) h (ne_eqb (length widths) (4 * font_chars) e)

    module _ (e : length widths ≡ 4 * font_chars) where
      readable_whole : xgp_result file spacing widths room ≡ shown_sheet file spacing widths room
      unfolding xgp_result
      readable_whole = R.readable file (four_fonts widths) (shown_sheet file spacing widths room) h (eq-eqb (length widths) (4 * font_chars) e)

      pub some_negative : any_negative widths ≡ true → xgp_result file spacing widths room ≡ refusal negative_width 0
      unfolding shown_sheet
      some_negative g = readable_whole ∙ ap (λ (t : Bool). cond t (refusal negative_width 0) (if_room no_sheet_room room (shown_result (read_xgp widths spacing file)))) g

      pub readable : any_negative widths ≡ false → xgp_result file spacing widths room ≡ if_room no_sheet_room room (shown_result (read_xgp widths spacing file))
      unfolding shown_sheet
      readable g = readable_whole ∙ ap (λ (t : Bool). cond t (refusal negative_width 0) (if_room no_sheet_room room (shown_result (read_xgp widths spacing file)))) g

-- ---- an accepted file

pub record Listed (file : List ℕ) (spacing : ℕ) (widths : List ℤ) (bs : List ℕ) : Type 0 where
  pub within : length file ≤ max_file
  pub four_fonts_lem : length widths ≡ 4 * font_chars
  pub not_negative : any_negative widths ≡ false
  pub marks : List Mark
  pub shown : read_xgp widths spacing file ≡ shows marks
  pub sheet_is : bs ≡ sheet marks
  pub pages : Paged 1 false marks
  pub places : Placed marks

module _ (file : List ℕ) (spacing : ℕ) (widths : List ℤ) (room : ℕ) (bs : List ℕ) where
  by_shown : (x : Shown) → read_xgp widths spacing file ≡ x → shown_result x ≡ written bs → length file ≤ max_file → length widths ≡ 4 * font_chars → any_negative widths ≡ false → Listed file spacing widths bs
  unfolding shown_result
  by_shown (refused_at n at) q e a b c = absurd (suc-ne-zero 0 cc)
  by_shown (shows ms) q e a b c =
      record {
        within = a;
        four_fonts_lem = b;
        not_negative = c;
        marks = ms;
        shown = q;
        sheet_is = cc;
        pages = paged widths spacing file ms q;
        places = placed widths spacing file ms q;
      }

  pub listed : xgp_result file spacing widths room ≡ written bs → Listed file spacing widths bs
  unfolding xgp_result if_readable shown_sheet
  listed = go (ltb max_file (length file)) refl (four_fonts widths) refl (any_negative widths) refl
    where
      go : (t : Bool) → ltb max_file (length file) ≡ t → (u : Bool) → four_fonts widths ≡ u → (v : Bool) → any_negative widths ≡ v
          → cond t (refusal file_too_long 0) (cond u (cond v (refusal negative_width 0) (if_room no_sheet_room room (shown_result (read_xgp widths spacing file)))) (refusal widths_not_whole 0)) ≡ written bs
          → Listed file spacing widths bs
      go true a u b v c e = absurd (suc-ne-zero 0 cc)
      go false a false b v c e = absurd (suc-ne-zero 0 cc)
      go false a true b true c e = absurd (suc-ne-zero 0 cc)
      go false a true b false c e =
          by_shown (read_xgp widths spacing file) refl (room_made no_sheet_room room (shown_result (read_xgp widths spacing file)) bs e) (ltb-false max_file (length file) a) (eqb-true (length widths) (4 * font_chars) b) c
