-- The DVI file of a list of items, to the last byte (document 01, "Our writer makes one page"; document 02, "Software cuts").
--     x_target_of, y_target_of     a character's targets
--     Position                 what was last set: the font, X and Y
--     commands_of               the commands that set a character after this position
--     bop_bytes                 the start of a page
--     Writing                  how far the file is made: the position, the page's number, its offset, and the next byte's
--     item_bytes                the bytes of an item after this writing, and writing_after the writing after them
--     items_bytes               those of a list of items, and writing_after_all the writing after them
--     pages_bytes               all pages
--     definition               a font's definition
--     postamble_bytes           the postamble
--     dvi_file                  the file
use Rattle.std.specs.Prelude.{ℕ, suc, ◌+◌, ◌-◌, ◌/◌, ◌%◌, cond, ltb, eqb, ℤ, pos, negsuc, ◌-ℤ◌, length}
use mathlib.Core.List.{List, [], ◌∷◌, ◌++◌, map, foldl, flatten}
use Rattle.std.proofs.Math.Option.{Option, none, some}
use Rattle.integers.specs.Equality.{eq_z}
use Rattle.octets.specs.Octets.{signed_bytes, width_of}
use Rattle.octets.specs.Transducer.{transduced}
use Rattle.measure.specs.Target.{x_target, y_target}
use Rattle.galley_file.specs.Font.{font_of, point_size}
use Rattle.galley_file.specs.declared.character.Character.{Character}
use Rattle.galley_file.specs.declared.item.Item.{Item}
use Rattle.galley_file.specs.declared.item.Item.TheVariants.{Placed, Cut}
use Rattle.galley_file.specs.Item.{characters_of}
use Rattle.extents.specs.FontMarks.{used_fonts}
use Rattle.extents.specs.Extents.{largest}
use Rattle.dvi.specs.Command.{BOP, EOP, PST, HORZCHAR, FONT, X4, Y4, FONTNUM}

-- ---- the commands of a character

-- X and Y
abbrev pub x_target_of : Character → ℤ
x_target_of c = x_target c.x.0

abbrev pub y_target_of : Character → ℤ
y_target_of c = y_target c.height.0

pub record Position : Type 0 where
  pub font : Option ℕ
  pub x : ℤ
  pub y : ℤ

-- at the start of a page: no font, and a page's first moves are from 0
unfoldable pub start_position : Position
start_position = record { font = none; x = pos 0; y = pos 0 }

unfoldable pub position_at : Character → Position
position_at c = record { font = some c.font; x = x_target_of c; y = y_target_of c }

-- 154 to 217 up to 63, else 137
unfoldable pub font_command : ℕ → List ℕ
font_command f = cond (ltb f 64) ((FONTNUM + f) ∷ []) (FONT ∷ signed_bytes 4 (pos f))

-- a font command if the font differs from the last, always for the first
unfoldable pub font_change : Option ℕ → ℕ → List ℕ
font_change none f = font_command f
font_change (some g) f = cond (eqb g f) [] (font_command f)

-- the shortest of three commands: op takes four bytes, and the next two take three and two
unfoldable pub shortest : ℕ → ℤ → List ℕ
shortest op m = (op + (4 - width_of m)) ∷ signed_bytes (width_of m) m

-- a move, if not 0
unfoldable pub move : ℕ → ℤ → List ℕ
move op m = cond (eq_z m (pos 0)) [] (shortest op m)

-- the font, the horizontal move, the vertical move, HORZCHAR; moves are differences of targets
unfoldable pub commands_of : Position → Character → List ℕ
commands_of p c =
    font_change p.font c.font
    ++ (move X4 (x_target_of c -ℤ p.x) ++ (move Y4 (y_target_of c -ℤ p.y) ++ (HORZCHAR ∷ c.code ∷ [])))

-- ---- the pages

-- BOP with the page's number and the offset of the previous BOP
unfoldable pub bop_bytes : ℕ → ℤ → List ℕ
bop_bytes n previous = BOP ∷ signed_bytes 4 (pos n) ++ signed_bytes 4 previous

pub record Writing : Type 0 where
  pub position : Position
  -- the page's number
  pub page : ℕ
  -- the offset of its BOP
  pub bop : ℕ
  -- the offset of the next byte
  pub at : ℕ

-- after the first BOP: page 1, at offset 0
unfoldable pub first_writing : Writing
first_writing = record { position = start_position; page = 1; bop = 0; at = 9 }

-- "each cut ends the page and starts the next, numbered 1, 2, 3": EOP, and BOP with the next number and this page's offset
unfoldable pub item_bytes : Writing → Item → List ℕ
item_bytes p (Placed c) = commands_of p.position c
item_bytes p Cut = EOP ∷ bop_bytes (suc p.page) (pos p.bop)

-- a page begins at the start position: "with the font stated anew"; its BOP follows EOP
unfoldable pub writing_after : Writing → Item → Writing
writing_after p (Placed c) = record { position = position_at c; page = p.page; bop = p.bop; at = p.at + length (commands_of p.position c) }
writing_after p Cut = record { position = start_position; page = suc p.page; bop = p.at + 1; at = p.at + 10 }

abbrev pub items_bytes : Writing → List Item → List ℕ
items_bytes w is = transduced item_bytes writing_after w is

abbrev pub writing_after_all : Writing → List Item → Writing
writing_after_all w is = foldl writing_after w is

-- the first page's BOP, the items, and the last page's EOP
unfoldable pub pages_bytes : List Item → List ℕ
pages_bytes is = bop_bytes 1 (negsuc 0) ++ (items_bytes first_writing is ++ (EOP ∷ []))

-- ---- the postamble

-- C (67), the font digit, the point size in two digits (0 is 48)
unfoldable pub name_of : ℕ → List ℕ
name_of f = 67 ∷ (48 + font_of f) ∷ (48 + point_size f / 10) ∷ (48 + point_size f % 10) ∷ []

-- ID and number are the font number; the name stands in quotes (34)
unfoldable pub definition : ℕ → List ℕ
definition f = signed_bytes 4 (pos f) ++ (signed_bytes 4 (pos f) ++ (34 ∷ name_of f ++ (34 ∷ [])))

abbrev pub definition_bytes : List ℕ → List ℕ
definition_bytes fs = flatten (map definition fs)

-- -1, PST's offset, a zero byte, four bytes 223
unfoldable pub trailer_bytes : ℕ → List ℕ
trailer_bytes pst = signed_bytes 4 (negsuc 0) ++ (signed_bytes 4 (pos pst) ++ (0 ∷ 223 ∷ 223 ∷ 223 ∷ 223 ∷ []))

-- PST at offset pst, the last BOP's offset, height and width, the definitions, the trailer
unfoldable pub postamble_bytes : ℕ → ℕ → List Character → List ℕ
postamble_bytes last pst cs =
    PST ∷ signed_bytes 4 (pos last)
    ++ (signed_bytes 4 (largest (map y_target_of cs))
    ++ (signed_bytes 4 (largest (map x_target_of cs)) ++ (definition_bytes (used_fonts 120 cs) ++ trailer_bytes pst)))

-- ---- the file

-- "Postamble height and width are over all pages", and so are the fonts defined
unfoldable pub dvi_file : List Item → List ℕ
dvi_file is = pages_bytes is ++ postamble_bytes (writing_after_all first_writing is).bop (length (pages_bytes is)) (characters_of is)
