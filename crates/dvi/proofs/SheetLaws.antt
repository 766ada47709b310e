-- Where the tests of the whole call of a reader of DVI files are passed.
-- Assumes nothing.
use Rattle.std.specs.Prelude.{◌≡◌, List, ℕ, ◌%◌, ◌≤◌, ℤ, length}
use Rattle.std.proofs.Common.{eq-eqb}
use Rattle.octets.specs.Answer.{Result}
use Rattle.sheet.specs.Readable.{max_file, font_chars, if_readable}
use Rattle.sheet.specs.ReadableLaws as R
use Rattle.dvi.specs.Sheet.{whole_fonts}

pub readable : (dvi : List ℕ) (widths : List ℤ) (r : Result) → length dvi ≤ max_file → length widths % font_chars ≡ 0 → if_readable dvi (whole_fonts widths) r ≡ r
readable dvi widths r h e = R.readable dvi (whole_fonts widths) r h (eq-eqb (length widths % font_chars) 0 e)
