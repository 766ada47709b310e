-- What reading a file of XGP character mode gives (document 02, "The XGP drawer").
--     four_fonts       a table of widths that the reader takes
--     any_negative     whether a width is less than 0
--     xgp_result       what the reader gives for a file, a line spacing, a table of widths and a buffer of so many bytes
use Rattle.std.specs.Prelude.{ℕ, ◌*◌, Bool, false, cond, ◌||◌, List, [], ◌∷◌, eqb, ℤ, pos, length}
use Rattle.std.specs.Int.Signed.{lt_z}
use Rattle.octets.specs.Answer.{Result, refusal, if_room, no_sheet_room, negative_width}
use Rattle.sheet.specs.Shown.{shown_result}
use Rattle.sheet.specs.Readable.{font_chars, if_readable}
use Rattle.xgp.specs.File.{read_xgp}

-- 31: "unless the table is four whole fonts"
abbrev pub four_fonts : List ℤ → Bool
four_fonts widths = eqb (length widths) (4 * font_chars)

-- 63: "each width at least 0"
unfoldable pub any_negative : List ℤ → Bool
any_negative [] = false
any_negative (z ∷ zs) = lt_z z (pos 0) || any_negative zs

-- 63, what the file is refused for, 30
unfoldable pub shown_sheet : List ℕ → ℕ → List ℤ → ℕ → Result
shown_sheet file spacing widths room =
    cond (any_negative widths) (refusal negative_width 0) (if_room no_sheet_room room (shown_result (read_xgp widths spacing file)))

-- 20 and 31 before these
unfoldable pub xgp_result : List ℕ → ℕ → List ℤ → ℕ → Result
xgp_result file spacing widths room = if_readable file (four_fonts widths) (shown_sheet file spacing widths room)
