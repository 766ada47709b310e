-- The commands of 002 and how they stand in bytes. BOP and PST stand between pages, and `File` reads them.
--     BOP, EOP ..     the numbers of commands, as 002 names them
--     Command         a command inside a page
--     NoBracket       neither PUSH nor POP
--     Layout          how the parameters of a command stand after its first byte
--     layout_of        the layout of each first byte
--     Decoded         the command that some bytes start with, or why there is none
--     decode          the command with this first byte, before these bytes
use Rattle.std.specs.Prelude.{ℕ, ◌-◌, cond, List, [], ◌∷◌, ltb, leb, ℤ, pos, length, get_or, take}
use Rattle.octets.specs.Octets.{signed, signed_at}

-- ---- the numbers of the commands that stand between pages, of brackets, and of those that our writer makes

abbrev pub BOP : ℕ
BOP = 129

abbrev pub EOP : ℕ
EOP = 130

abbrev pub PST : ℕ
PST = 131

abbrev pub PUSH : ℕ
PUSH = 132

abbrev pub POP : ℕ
POP = 133

abbrev pub HORZCHAR : ℕ
HORZCHAR = 136

abbrev pub FONT : ℕ
FONT = 137

-- X4 and Y4; X3, X2 and Y3, Y2 follow
abbrev pub X4 : ℕ
X4 = 142

abbrev pub Y4 : ℕ
Y4 = 146

-- FONTNUM 0; those to 63 follow
abbrev pub FONTNUM : ℕ
FONTNUM = 154

-- ---- the commands inside a page

pub data Command : Type 0 where
  -- 0 to 127: the character
  set_char : ℕ → Command
  nop : Command
  eop : Command
  push : Command
  pop : Command
  -- height and width
  vert_rule : ℤ → ℤ → Command
  horz_rule : ℤ → ℤ → Command
  horz_char : ℤ → Command
  -- FONT, and FONTNUM 0 to 63
  set_font : ℤ → Command
  -- W2, W3 or W4, by so much, and W0; and so the others
  move_w : ℤ → Command
  move_w0 : Command
  move_x : ℤ → Command
  move_x0 : Command
  move_y : ℤ → Command
  move_y0 : Command
  move_z : ℤ → Command
  move_z0 : Command

abbrev pub NoBracket : Command → Type 0
NoBracket (set_char c) = Unit {0}
NoBracket nop = Unit {0}
NoBracket eop = Unit {0}
NoBracket push = ⊥
NoBracket pop = ⊥
NoBracket (vert_rule h w) = Unit {0}
NoBracket (horz_rule h w) = Unit {0}
NoBracket (horz_char c) = Unit {0}
NoBracket (set_font f) = Unit {0}
NoBracket (move_w m) = Unit {0}
NoBracket move_w0 = Unit {0}
NoBracket (move_x m) = Unit {0}
NoBracket move_x0 = Unit {0}
NoBracket (move_y m) = Unit {0}
NoBracket move_y0 = Unit {0}
NoBracket (move_z m) = Unit {0}
NoBracket move_z0 = Unit {0}

pub data Layout : Type 0 where
  -- undefined, or not allowed inside a page
  barred : Layout
  -- no parameter
  bare : Command → Layout
  -- one of so many bytes
  takes : ℕ → (ℤ → Command) → Layout
  -- two of four bytes each
  takes_two : (ℤ → ℤ → Command) → Layout

-- 128 to 153
unfoldable pub layouts : List Layout
layouts =
    -- 128 NOP, 129 BOP, 130 EOP, 131 PST
    bare nop
    ∷ barred
    ∷ bare eop
    ∷ barred
    -- 132 PUSH, 133 POP
    ∷ bare push
    ∷ bare pop
    -- 134 VERTRULE h<4> w<4>, 135 HORZRULE h<4> w<4>
    ∷ takes_two vert_rule
    ∷ takes_two horz_rule
    -- 136 HORZCHAR c<1>, 137 FONT f<4>
    ∷ takes 1 horz_char
    ∷ takes 4 set_font
    -- 138 W4, 139 W3, 140 W2, 141 W0
    ∷ takes 4 move_w
    ∷ takes 3 move_w
    ∷ takes 2 move_w
    ∷ bare move_w0
    -- 142 X4, 143 X3, 144 X2, 145 X0
    ∷ takes 4 move_x
    ∷ takes 3 move_x
    ∷ takes 2 move_x
    ∷ bare move_x0
    -- 146 Y4, 147 Y3, 148 Y2, 149 Y0
    ∷ takes 4 move_y
    ∷ takes 3 move_y
    ∷ takes 2 move_y
    ∷ bare move_y0
    -- 150 Z4, 151 Z3, 152 Z2, 153 Z0
    ∷ takes 4 move_z
    ∷ takes 3 move_z
    ∷ takes 2 move_z
    ∷ bare move_z0
    ∷ []

-- 0 to 127 set a character, 154 to 217 are FONTNUM 0 to 63, 218 to 255 are undefined
unfoldable pub layout_of : ℕ → Layout
layout_of op =
    cond (ltb op 128) (bare (set_char op))
    (cond (ltb op FONTNUM) (get_or layouts (op - 128) barred)
    (cond (ltb op 218) (bare (set_font (pos (op - FONTNUM)))) barred))

pub data Decoded : Type 0 where
  -- the first byte is barred
  no_command : Decoded
  -- the file ends inside the command
  cut_short : Decoded
  -- the command and the number of its parameters' bytes
  command : Command → ℕ → Decoded

-- parameters are two's complement
unfoldable pub with_parameters : Layout → List ℕ → Decoded
with_parameters barred ps = no_command
with_parameters (bare c) ps = command c 0
with_parameters (takes n c) ps = cond (leb n (length ps)) (command (c (signed (take n ps))) n) cut_short
with_parameters (takes_two c) ps = cond (leb 8 (length ps)) (command (c (signed (take 4 ps)) (signed_at 4 4 ps)) 8) cut_short

unfoldable pub decode : ℕ → List ℕ → Decoded
decode op ps = with_parameters (layout_of op) ps
