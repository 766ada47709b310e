-- The DVI file of identification 2 of a list of items, to the last byte (document 02, "The second edition of DVI").
--     h_of, v_of           a character's places across and down
--     position_at         what was last set: the font and the place
--     parameter_width     the fewest bytes that hold a number
--     selects            the command that selects a font
--     definition         a font's definition
--     font_change         the commands before a character that change its font
--     commands_of         the commands that set a character
--     preamble_bytes      the preamble
--     bop_bytes           the start of a page
--     Writing            how far the file is made: the position, the characters set, the page's number, its offset, and the next byte's
--     item_bytes          the bytes of an item after this writing, and writing_after the writing after them
--     items_bytes         those of a list of items, and writing_after_all the writing after them
--     pages_bytes         the preamble and all pages
--     postamble_bytes     the postamble
--     fillers            the number of bytes 223
--     dvi2_file           the file
use Rattle.std.specs.Prelude.{ℕ, zero, suc, ◌+◌, ◌-◌, ◌*◌, ◌%◌, Bool, cond, ltb, eqb, ℤ, pos, negsuc, ◌-ℤ◌, ◌*ℤ◌, length}
use mathlib.Core.List.{List, [], ◌∷◌, ◌++◌, map, foldl, flatten}
use Rattle.std.proofs.Math.Option.{Option, none, some}
use Rattle.std.specs.Int.Signed.{mag}
use Rattle.integers.specs.Equality.{eq_z}
use Rattle.octets.specs.Octets.{bytes, signed_bytes}
use Rattle.octets.specs.Octets as octets
use Rattle.octets.specs.Transducer.{transduced}
use Rattle.galley_file.specs.Font.{point_size}
use Rattle.galley_file.specs.declared.character.Character.{Character}
use Rattle.galley_file.specs.declared.item.Item.{Item}
use Rattle.galley_file.specs.declared.item.Item.TheVariants.{Placed, Cut}
use Rattle.galley_file.specs.Item.{characters_of}
use Rattle.extents.specs.FontMarks.{uses, used_fonts}
use Rattle.extents.specs.Extents.{largest}
use Rattle.dvi.specs.Writer.{Position, start_position, name_of}
use Rattle.dvi2.specs.Command.{PUT1, BOP, EOP, RIGHT1, DOWN1, FNTNUM0, FNT1, FNTDEF1, PRE, POST, POSTPOST}

-- ---- the commands of a character

-- "Places are x and three times the height, exactly"
abbrev pub h_of : Character → ℤ
h_of c = c.x.0

abbrev pub v_of : Character → ℤ
v_of c = pos 3 *ℤ c.height.0

unfoldable pub position_at : Character → Position
position_at c = record { font = some c.font; x = h_of c; y = v_of c }

-- of 1, 2, 3 and 4
unfoldable pub parameter_width : ℤ → ℕ
parameter_width z = cond (ltb (mag z) 128) 1 (octets.width_of z)

-- fnt_num up to 63, else fnt1
unfoldable pub selects : ℕ → List ℕ
selects f = cond (ltb f 64) ((FNTNUM0 + f) ∷ []) (FNT1 ∷ f ∷ [])

-- "scaled and design size 6 units per point of size"
abbrev pub font_units : ℕ → ℕ
font_units f = 6 * point_size f

-- fnt_def1 k c[4] s[4] d[4] a l n: "checksum 0, no area, number as before, name too but without quotes", which is four bytes
unfoldable pub definition : ℕ → List ℕ
definition f = FNTDEF1 ∷ f ∷ bytes 4 0 ++ (bytes 4 (font_units f) ++ (bytes 4 (font_units f) ++ (0 ∷ 4 ∷ name_of f)))

-- "A font is defined just before the command that first selects it": whether it was selected before
unfoldable pub font_commands : Bool → ℕ → List ℕ
font_commands known f = cond known (selects f) (definition f ++ selects f)

-- "its font if it differs (always for a page's first)"
unfoldable pub font_change : Bool → Option ℕ → ℕ → List ℕ
font_change known none f = font_commands known f
font_change known (some g) f = cond (eqb g f) [] (font_commands known f)

-- the shortest of four commands: op takes one byte, and the next three take two, three and four
unfoldable pub shortest : ℕ → ℤ → List ℕ
shortest op m = (op + (parameter_width m - 1)) ∷ signed_bytes (parameter_width m) m

-- a move, "if not 0"
unfoldable pub move : ℕ → ℤ → List ℕ
move op m = cond (eq_z m (pos 0)) [] (shortest op m)

-- the font, "the moves right and down if not 0, and a put command"
unfoldable pub commands_of : Bool → Position → Character → List ℕ
commands_of known p c =
    font_change known p.font c.font
    ++ (move RIGHT1 (h_of c -ℤ p.x) ++ (move DOWN1 (v_of c -ℤ p.y) ++ (PUT1 ∷ c.code ∷ [])))

-- ---- the preamble and the pages

-- "numerator 254,000, denominator 432 and magnification 1,000"
unfoldable pub unit_bytes : List ℕ
unit_bytes = bytes 4 254000 ++ (bytes 4 432 ++ bytes 4 1000)

-- pre i num den mag k: "an empty comment"
unfoldable pub preamble_bytes : List ℕ
preamble_bytes = PRE ∷ 2 ∷ unit_bytes ++ (0 ∷ [])

-- bop c0 .. c9 p: "count 0 the page number and the other nine 0", and the offset of the previous bop, -1 for the first
unfoldable pub bop_bytes : ℕ → ℤ → List ℕ
bop_bytes n previous = BOP ∷ bytes 4 n ++ (bytes 36 0 ++ signed_bytes 4 previous)

pub record Writing : Type 0 where
  pub position : Position
  -- the characters set so far, on all pages
  pub behind : List Character
  -- the page's number
  pub page : ℕ
  -- the offset of its bop
  pub bop : ℕ
  -- the offset of the next byte
  pub at : ℕ

-- after the first bop: page 1, at offset 15
unfoldable pub first_writing : Writing
first_writing = record { position = start_position; behind = []; page = 1; bop = 15; at = 60 }

-- a font is known once a character has it; a cut ends the page and starts the next
unfoldable pub item_bytes : Writing → Item → List ℕ
item_bytes p (Placed c) = commands_of (uses c.font p.behind) p.position c
item_bytes p Cut = EOP ∷ bop_bytes (suc p.page) (pos p.bop)

-- a page begins at the start position; its bop follows eop
unfoldable pub writing_after : Writing → Item → Writing
writing_after p (Placed c) =
    record {
      position = position_at c;
      behind = p.behind ++ (c ∷ []);
      page = p.page;
      bop = p.bop;
      at = p.at + length (commands_of (uses c.font p.behind) p.position c);
    }
writing_after p Cut = record { position = start_position; behind = p.behind; page = suc p.page; bop = p.at + 1; at = p.at + 46 }

abbrev pub items_bytes : Writing → List Item → List ℕ
items_bytes w is = transduced item_bytes writing_after w is

abbrev pub writing_after_all : Writing → List Item → Writing
writing_after_all w is = foldl writing_after w is

-- the preamble, the first page's bop, the items, and the last page's eop
unfoldable pub pages_bytes : List Item → List ℕ
pages_bytes is = preamble_bytes ++ (bop_bytes 1 (negsuc 0) ++ (items_bytes first_writing is ++ (EOP ∷ [])))

-- ---- the postamble

-- "again in the postamble, ascending there"
abbrev pub definition_bytes : List ℕ → List ℕ
definition_bytes fs = flatten (map definition fs)

-- post p num den mag l u s t: the last bop's offset; "width and height are the largest of each, at least 0", the height l first; "Greatest stack depth is 0; the
-- page total is taken modulo 65,536"
unfoldable pub post_bytes : ℕ → ℕ → List Character → List ℕ
post_bytes last pages cs =
    POST ∷ bytes 4 last
    ++ (unit_bytes
    ++ (signed_bytes 4 (largest (map v_of cs)) ++ (signed_bytes 4 (largest (map h_of cs)) ++ (bytes 2 0 ++ bytes 2 (pages % 65536)))))

-- post, the definitions, and post_post q i: post's offset, and the identification
unfoldable pub postamble_bytes : ℕ → ℕ → ℕ → List Character → List ℕ
postamble_bytes last pages post cs =
    post_bytes last pages cs ++ (definition_bytes (used_fonts 120 cs) ++ (POSTPOST ∷ bytes 4 post ++ (2 ∷ [])))

-- ---- the file

-- the file but for the bytes 223
unfoldable pub command_bytes : List Item → List ℕ
command_bytes is =
    pages_bytes is ++ postamble_bytes (writing_after_all first_writing is).bop (writing_after_all first_writing is).page (length (pages_bytes is)) (characters_of is)

-- "the fewest 223 bytes, at least four, make the length a multiple of four": after n bytes
unfoldable pub fillers : ℕ → ℕ
fillers n = 4 + (4 - n % 4) % 4

unfoldable pub bytes223 : ℕ → List ℕ
bytes223 zero = []
bytes223 (suc n) = 223 ∷ bytes223 n

unfoldable pub dvi2_file : List Item → List ℕ
dvi2_file is = command_bytes is ++ bytes223 (fillers (length (command_bytes is)))
