-- The code's marks as those of the sheet: numbers, which on a sheet of a DVI file are rsu.
use Rattle.sheet.specs.Sheet as S
use Rattle.dvi.specs.declared.mark.Mark.{Mark}
use Rattle.dvi.specs.declared.mark.Mark.TheVariants.{Start, Char, Rule}

abbrev pub mark_of : Mark → S.Mark
mark_of (Start n) = S.page_mark n
mark_of (Char c x y f) = S.char_mark x.0 y.0 f c
mark_of (Rule k x y h w) = S.rule_mark k x.0 y.0 h.0 w.0
