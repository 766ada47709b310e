-- What reading a DVI file gives (document 01, "Numbers given back").
--     whole_fonts      a table of widths that a reader takes
--     sheet_result     what the reader gives for a file, a table of widths and a buffer of so many bytes
use Rattle.std.specs.Prelude.{ℕ, ◌%◌, Bool, List, eqb, ℤ, length}
use Rattle.octets.specs.Answer.{Result, if_room, no_sheet_room}
use Rattle.sheet.specs.Shown.{shown_result}
use Rattle.sheet.specs.Readable.{font_chars, if_readable}
use Rattle.dvi.specs.File.{read_dvi}

-- 31: "width table not whole fonts"
abbrev pub whole_fonts : List ℤ → Bool
whole_fonts widths = eqb (length widths % font_chars) 0

-- 20, 31, what the file is refused for, 30
unfoldable pub sheet_result : List ℕ → List ℤ → ℕ → Result
sheet_result dvi widths room = if_readable dvi (whole_fonts widths) (if_room no_sheet_room room (shown_result (read_dvi widths dvi)))
