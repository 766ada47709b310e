-- Where the printer stands, and the effect of each code (003; document 02, "The XGP drawer"), in dots and scan lines.
--     start        before the first code
--     Effect       what a code does
--     set_marks     what a character shows
--     effect       the effect of each code, with these widths and this line spacing
use Rattle.std.specs.Prelude.{ℕ, ◌+◌, ◌*◌, true, false, cond, ◌&&◌, List, [], ◌∷◌, ◌++◌, ℤ, pos, ◌+ℤ◌, ◌-ℤ◌, get_or}
use Rattle.octets.specs.Octets.{fits32}
use Rattle.octets.specs.Answer.{out_of32_bits}
use Rattle.sheet.specs.Sheet.{Mark, page_mark, char_mark}
use Rattle.sheet.specs.Readable.{font_chars}
use Rattle.xgp_code.specs.Measure.{in_dots, in_lines}
use Rattle.xgp_code.specs.declared.Code.{Code}
use Rattle.xgp_code.specs.declared.Code.TheVariants.{Null, Char, LineFeed, FormFeed, Return, Font, Column, Increment, Adjust}
use Rattle.xgp_code.specs.declared.measure.Dots.{Dots}
use Rattle.xgp_code.specs.declared.measure.Lines.{Lines}
use Rattle.xgp.specs.declared.state.State.{State}

-- ---- the state

-- "At the start the font is 0, the left margin 0, the baseline one line spacing"
unfoldable pub start : ℕ → State
start spacing =
    record { font = 0; x = in_dots (pos 0); baseline = in_lines (pos spacing); adjust = in_lines (pos 0); page = 1; started = false }

unfoldable pub with_x : State → Dots → State
with_x s d =
    record { font = s.font; x = d; baseline = s.baseline; adjust = s.adjust; page = s.page; started = s.started }

unfoldable pub with_baseline : State → Lines → State
with_baseline s l =
    record { font = s.font; x = s.x; baseline = l; adjust = s.adjust; page = s.page; started = s.started }

unfoldable pub with_adjust : State → Lines → State
with_adjust s l =
    record { font = s.font; x = s.x; baseline = s.baseline; adjust = l; page = s.page; started = s.started }

-- "The adjustment sticks until reset by another adjust command or a font select"
unfoldable pub with_font : State → ℕ → State
with_font s f =
    record { font = f; x = s.x; baseline = s.baseline; adjust = in_lines (pos 0); page = s.page; started = s.started }

-- the first baseline of the next page
unfoldable pub next_page : ℕ → State → State
next_page spacing s =
    record { font = s.font; x = s.x; baseline = in_lines (pos spacing); adjust = s.adjust; page = s.page + 1; started = false }

-- after a character: so far to the right, on a page whose field was given
unfoldable pub after_char : State → Dots → State
after_char s d =
    record { font = s.font; x = d; baseline = s.baseline; adjust = s.adjust; page = s.page; started = true }

-- ---- the effect of a code

pub data Effect : Type 0 where
  -- it is refused with this number
  fault : ℕ → Effect
  -- the state after it, and what it shows
  moved : State → List Mark → Effect

-- "A page field stands before a page's first character, its number 1 more than the FFs before it"
unfoldable pub page_marks : State → List Mark
page_marks s = cond s.started [] (page_mark (pos s.page) ∷ [])

-- character c at y
unfoldable pub set_marks : State → ℤ → ℕ → List Mark
set_marks s y c = page_marks s ++ (char_mark s.x.0 y (pos s.font) c ∷ [])

-- "A raised base-line lessens y"
unfoldable pub y_in : State → ℤ
y_in s = s.baseline.0 -ℤ s.adjust.0

-- the width of character c in the current font
unfoldable pub width_in : List ℤ → State → ℕ → ℤ
width_in ws s c = get_or ws (font_chars * s.font + c) (pos 0)

-- 28: "if x, the baseline or a character's y leaves 32 bits"
unfoldable pub to_x : State → ℤ → Effect
to_x s z = cond (fits32 z) (moved (with_x s (in_dots z)) []) (fault out_of32_bits)

unfoldable pub to_baseline : State → ℤ → Effect
to_baseline s z = cond (fits32 z) (moved (with_baseline s (in_lines z)) []) (fault out_of32_bits)

unfoldable pub set_char : State → ℕ → ℤ → ℤ → Effect
set_char s c y z = cond (fits32 y && fits32 z) (moved (after_char s (in_dots z)) (set_marks s y c)) (fault out_of32_bits)

unfoldable pub effect : List ℤ → ℕ → State → Code → Effect
-- "Null - byte is ignored"
effect ws spacing s Null = moved s []
-- "placed and moved on by their width"
effect ws spacing s (Char c) = set_char s c (y_in s) (s.x.0 +ℤ width_in ws s c)
-- "LF by the caller's 16-bit line spacing"; "LF and FF leave x as it is"
effect ws spacing s LineFeed = to_baseline s (s.baseline.0 +ℤ pos spacing)
-- "FF goes to the first baseline of the next page"
effect ws spacing s FormFeed = moved (next_page spacing s) []
-- "CR causes a column select to the current left margin"
effect ws spacing s Return = moved (with_x s (in_dots (pos 0))) []
effect ws spacing s (Font f) = moved (with_font s f) []
-- "the x-position to print at next"
effect ws spacing s (Column d) = moved (with_x s d) []
effect ws spacing s (Increment d) = to_x s (s.x.0 +ℤ d.0)
-- "the base-line adjustment to the current font"
effect ws spacing s (Adjust l) = moved (with_adjust s l) []
