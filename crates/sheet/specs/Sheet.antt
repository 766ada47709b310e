-- The sheet: the list of what a file shows (document 01, "Sheet fields"), whatever the file's format.
--     Mark          what is shown: the start of a page, a character, a rule
--     mark_field     its field
--     sheet         the whole sheet
use Rattle.std.specs.Prelude.{ℕ, List, [], ◌∷◌, ◌++◌, ℤ, length}
use Rattle.octets.specs.Octets.{signed_bytes}
use Rattle.octets.specs.Field.{field, end_field}

pub data Mark : Type 0 where
  -- the start of the page with this number
  page_mark : ℤ → Mark
  -- x, y, font, character
  char_mark : ℤ → ℤ → ℤ → ℕ → Mark
  -- 0 vertical or 1 horizontal; x, y before the rule; height, width
  rule_mark : ℕ → ℤ → ℤ → ℤ → ℤ → Mark

-- page, tag 5, length 4: its number
-- character, tag 3, length 13: x, y, font (4 each), character (1)
-- rule, tag 4, length 17: 0 vertical or 1 horizontal (1), then x, y before the rule, height, width (4 each)
unfoldable pub mark_field : Mark → List ℕ
mark_field (page_mark n) = field 5 (signed_bytes 4 n)
mark_field (char_mark x y f c) = field 3 (signed_bytes 4 x ++ (signed_bytes 4 y ++ (signed_bytes 4 f ++ (c ∷ []))))
mark_field (rule_mark kind x y h w) = field 4 (kind ∷ signed_bytes 4 x ++ (signed_bytes 4 y ++ (signed_bytes 4 h ++ signed_bytes 4 w)))

unfoldable pub mark_fields : List Mark → List ℕ
mark_fields [] = []
mark_fields (m ∷ ms) = mark_field m ++ mark_fields ms

-- the fields, and End with their number
unfoldable pub sheet : List Mark → List ℕ
sheet ms = mark_fields ms ++ end_field (length ms)
