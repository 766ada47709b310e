-- Files and what they show, in one table, compared by computation. Every width is 20, but in font 1, where it is 7; the line spacing is 40.
use Rattle.std.specs.Prelude.{◌≡◌, refl, List, [], ◌∷◌, ◌++◌, map, ℕ, ℤ, pos, negsuc, replicate}
use Rattle.sheet.specs.Sheet.{page_mark, char_mark}
use Rattle.sheet.specs.Shown.{Shown, refused_at, shows}
use Rattle.octets.specs.Octets.{twos, fits32}
use Rattle.sheet.specs.Shown as F
use Rattle.xgp_code.specs.Code.{columns, adjusts, increments, operations, escaped, usual, of_seven_bits, one_more, read, decode}
use Rattle.xgp.specs.State.{start, with_x, with_baseline, with_adjust, with_font, next_page, after_char, page_marks, set_marks, y_in, width_in, to_x, to_baseline, set_char, effect}
use Rattle.xgp.specs.File.{after_effect, after_code, step, follow, run, read_xgp}

abbrev pub widths : List ℤ
widths = replicate 128 (pos 20) ++ (replicate 128 (pos 7) ++ replicate 256 (pos 20))

pub record Case : Type 0 where
  pub file : List ℕ
  pub shown : Shown

abbrev pub cases : List Case
cases =
    -- an empty file, nulls, and pages without a character show nothing
    record { file = []; shown = shows [] }
    ∷ record { file = 0x00 ∷ 0x0C ∷ 0x0C ∷ 0x0A ∷ []; shown = shows [] }
    -- plain and escaped characters
    ∷ record { file = 0x41 ∷ 0x7F ∷ 0x41 ∷ 0x0B ∷ 0x7F ∷ 0x09 ∷ []; shown = shows (page_mark (pos 1) ∷ char_mark (pos 0) (pos 40) (pos 0) 0x41 ∷ char_mark (pos 20) (pos 40) (pos 0) 0x41 ∷ char_mark (pos 40) (pos 40) (pos 0) 0x0B ∷ char_mark (pos 60) (pos 40) (pos 0) 0x09 ∷ []) }
    -- LF and FF leave x as it is, CR sets it to 0; the third page is numbered 3
    ∷ record { file = 0x41 ∷ 0x0A ∷ 0x41 ∷ 0x0D ∷ 0x0C ∷ 0x0C ∷ 0x41 ∷ []; shown = shows (page_mark (pos 1) ∷ char_mark (pos 0) (pos 40) (pos 0) 0x41 ∷ char_mark (pos 20) (pos 80) (pos 0) 0x41 ∷ page_mark (pos 3) ∷ char_mark (pos 0) (pos 40) (pos 0) 0x41 ∷ []) }
    -- a raised base-line lessens y; an adjust sets, and a font select sets it to 0
    ∷ record { file = 0x7F ∷ 0x01 ∷ 0x23 ∷ 0x03 ∷ 0x41 ∷ 0x7F ∷ 0x01 ∷ 0x23 ∷ 0x7E ∷ 0x41 ∷ 0x7F ∷ 0x01 ∷ 0x01 ∷ 0x41 ∷ 0x41 ∷ []; shown = shows (page_mark (pos 1) ∷ char_mark (pos 0) (pos 37) (pos 0) 0x41 ∷ char_mark (pos 20) (pos 42) (pos 0) 0x41 ∷ char_mark (pos 40) (pos 40) (pos 1) 0x41 ∷ char_mark (pos 47) (pos 40) (pos 1) 0x41 ∷ []) }
    -- column select, high byte first; increments of 63 and of -64
    ∷ record { file = 0x7F ∷ 0x01 ∷ 0x20 ∷ 0x02 ∷ 0x05 ∷ 0x41 ∷ 0x0D ∷ 0x7F ∷ 0x02 ∷ 0x3F ∷ 0x7F ∷ 0x02 ∷ 0x40 ∷ 0x41 ∷ []; shown = shows (page_mark (pos 1) ∷ char_mark (pos 261) (pos 40) (pos 0) 0x41 ∷ char_mark (negsuc 0) (pos 40) (pos 0) 0x41 ∷ []) }
    -- 60: above 127, backspace, ESCAPE 3, underscore, also cut short; 61: reserved, not listed; 62: cut short
    ∷ record { file = 0x41 ∷ 0x80 ∷ []; shown = refused_at 60 1 }
    ∷ record { file = 0x08 ∷ []; shown = refused_at 60 0 }
    ∷ record { file = 0x7F ∷ 0x03 ∷ []; shown = refused_at 60 0 }
    ∷ record { file = 0x7F ∷ 0x01 ∷ 0x21 ∷ []; shown = refused_at 60 0 }
    ∷ record { file = 0x7F ∷ 0x01 ∷ 0x20 ∷ 0x80 ∷ []; shown = refused_at 60 0 }
    ∷ record { file = 0x7F ∷ 0x08 ∷ []; shown = refused_at 61 0 }
    ∷ record { file = 0x00 ∷ 0x7F ∷ 0x01 ∷ 0x29 ∷ []; shown = refused_at 61 1 }
    ∷ record { file = 0x41 ∷ 0x7F ∷ 0x01 ∷ 0x20 ∷ 0x00 ∷ []; shown = refused_at 62 1 }
    ∷ []

pub shown_as_listed : map (λ (c : Case). read_xgp widths 40 c.file) cases ≡ map (λ (c : Case). c.shown) cases
unfolding read_xgp run follow step after_code after_effect F.shows_first decode read one_more of_seven_bits usual escaped operations columns adjusts increments twos fits32 start with_x with_baseline with_adjust with_font next_page after_char page_marks set_marks y_in width_in to_x to_baseline set_char effect
shown_as_listed = refl
