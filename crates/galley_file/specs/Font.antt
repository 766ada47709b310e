-- Font numbers (document 01, "Tape codes"): "Font number = 15 x (font - 1) + size index, 0 to 119".
--     font_number      the font number of a font, 1 to 8, and a size index, 0 to 14
--     font_of          its font
--     size_index       its size index
--     is_double        whether a size index is that of a double size
--     point_size       the size in points
use Rattle.std.specs.Prelude.{ℕ, ◌+◌, ◌-◌, ◌*◌, ◌/◌, ◌%◌, Bool, List, [], ◌∷◌, leb, get_or}

abbrev pub font_number : ℕ → ℕ → ℕ
font_number font index = 15 * (font - 1) + index

abbrev pub font_of : ℕ → ℕ
font_of number = number / 15 + 1

abbrev pub size_index : ℕ → ℕ
size_index number = number % 15

-- 9 to 14 are the double sizes
abbrev pub is_double : ℕ → Bool
is_double index = leb 9 index

-- the sizes of the codes 50 to 5E, in order
abbrev pub point_sizes : List ℕ
point_sizes = 7 ∷ 8 ∷ 10 ∷ 11 ∷ 12 ∷ 14 ∷ 18 ∷ 9 ∷ 6 ∷ 16 ∷ 20 ∷ 22 ∷ 24 ∷ 28 ∷ 36 ∷ []

abbrev pub point_size : ℕ → ℕ
point_size number = get_or point_sizes (size_index number) 0
