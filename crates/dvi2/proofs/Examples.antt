-- What some small files show, worked out by hand from DVItype: the commands that the writer does not make, and files that show nothing.
-- Assumes nothing.
use mathlib.Core.Path.{◌≡◌, refl}
use mathlib.Core.List.{List, [], ◌∷◌, ◌++◌, map}
use mathlib.Core.Option.{Option, none, some}
use Prim.Native.Nat.{ℕ}
use lib.IntN.{pos, negsuc}
use Rattle.integers.specs.Equality.{eq_z}
use Rattle.octets.specs.Octets.{number_from, twos, signed, bytes}
use Rattle.sheet.specs.Sheet.{Mark, page_mark, char_mark}
use Rattle.dvi.specs.Page.{new_page, with_numbers, with_font, right_by, down_by, set_w, set_x, set_y, set_z}
use Rattle.dvi2.specs.Command.{first_layouts, last_layouts, layout_of, in_file, with_parameters, decode}
use Rattle.dvi2.specs.Page.{is_defined, go_to, move_to, put_here, pushed, popped, end_page, effect}
use Rattle.dvi2.specs.File.{is_unit, preamble, after_effect, in_page, begin_page, outside, between_pages, step, shows_first, follow, run, show_dvi2}

-- pre, with identification i, numerator n and magnification m, and a comment of one byte
abbrev pre : ℕ → ℕ → ℕ → List ℕ
pre i n m = 247 ∷ i ∷ bytes 4 n ++ (bytes 4 432 ++ (bytes 4 m ++ (1 ∷ 32 ∷ [])))

-- nop and the definition of font 7, with an area and a name of a byte each; bop of page -2
abbrev opening : List ℕ
opening = 138 ∷ 243 ∷ 7 ∷ bytes 12 0 ++ (1 ∷ 1 ∷ 65 ∷ 66 ∷ 139 ∷ 255 ∷ 255 ∷ 255 ∷ 254 ∷ bytes 40 0)

-- a page of these commands after fnt_num_7, and post
abbrev page : List ℕ → List ℕ
page body = pre 2 254000 1000 ++ (opening ++ (178 ∷ body ++ (140 ∷ 248 ∷ [])))

abbrev files : List (List ℕ)
files =
    -- push, w2 100, put1 65, x1 5, y1 -6, z0, w0, x0, y0, right3 256, down4 20, put2 258, xxx1 of three bytes, pop, z2 300, z0, put1 66
    page (
    141 ∷ 149 ∷ 0 ∷ 100 ∷ 133 ∷ 65 ∷ 153 ∷ 5 ∷ 162 ∷ 250 ∷ 166 ∷ 147 ∷ 152 ∷ 161 ∷ 145 ∷ 0 ∷ 1 ∷ 0 ∷ 160 ∷ 0 ∷ 0 ∷ 0 ∷ 20 ∷ 134 ∷ 1 ∷ 2 ∷ 239 ∷ 3 ∷ 0 ∷ 133 ∷ 9 ∷ 142
    ∷ 168 ∷ 1 ∷ 44 ∷ 166 ∷ 133 ∷ 66 ∷ []
    )
    -- half the numerator and twice the magnification are the same unit
    ∷ (pre 2 127000 2000 ++ (opening ++ (140 ∷ 248 ∷ [])))
    -- set_char_65; set1; set_rule; put_rule
    ∷ page (65 ∷ [])
    ∷ page (128 ∷ 65 ∷ [])
    ∷ page (132 ∷ bytes 8 1)
    ∷ page (137 ∷ bytes 8 1)
    -- font 8 is not defined; pop from an empty stack; an entry left; put4 of a negative character
    ∷ page (179 ∷ [])
    ∷ page (142 ∷ [])
    ∷ page (141 ∷ [])
    ∷ page (136 ∷ 255 ∷ 255 ∷ 255 ∷ 255 ∷ [])
    -- put in no font; bop and an undefined opcode inside a page
    ∷ (pre 2 254000 1000 ++ (opening ++ (133 ∷ 65 ∷ 140 ∷ 248 ∷ [])))
    ∷ page (139 ∷ bytes 44 0)
    ∷ page (250 ∷ [])
    -- identification 3; another unit; no post; put1 cut short
    ∷ (pre 3 254000 1000 ++ (248 ∷ []))
    ∷ (pre 2 254000 2000 ++ (248 ∷ []))
    ∷ (pre 2 254000 1000 ++ (opening ++ (140 ∷ [])))
    ∷ (pre 2 254000 1000 ++ (opening ++ (178 ∷ 133 ∷ [])))
    ∷ []

abbrev shown : List (Option (List Mark))
shown =
    some (
    page_mark (negsuc 1)
    ∷ char_mark (pos 3276800) (pos 0) (pos 7) 65
    ∷ char_mark (pos 15269888) (pos 262144) (pos 7) 258
    ∷ char_mark (pos 0) (pos 19660800) (pos 7) 66
    ∷ []
    )
    ∷ some (page_mark (negsuc 1) ∷ [])
    ∷ none
    ∷ none
    ∷ none
    ∷ none
    ∷ none
    ∷ none
    ∷ none
    ∷ none
    ∷ none
    ∷ none
    ∷ none
    ∷ none
    ∷ none
    ∷ none
    ∷ none
    ∷ []

examples : map show_dvi2 files ≡ shown
unfolding eq_z number_from twos signed bytes new_page with_numbers with_font right_by down_by set_w set_x set_y set_z first_layouts last_layouts layout_of in_file with_parameters decode is_defined go_to move_to put_here pushed popped end_page effect is_unit preamble after_effect in_page begin_page outside between_pages step shows_first follow run show_dvi2
examples = refl
