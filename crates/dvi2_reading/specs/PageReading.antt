-- The commands of a page of the second edition, and when each may come (document 02, "The second edition of DVI").
--     same, begins     two lists are equal; one is a beginning of the other
--     PageCommand      the commands that the writer uses inside a page, and in_bytes their bytes
--     command_of        the only one of them that some bytes can be
--     PageState        how far a page is read: the items that are whole, and what is there of the next character
--     may_come          a command may come next
use Rattle.std.specs.Prelude.{ℕ, zero, suc, ◌-◌, ◌%◌, Bool, true, false, not, cond, ◌&&◌, ◌||◌, List, [], ◌∷◌, ltb, leb, eqb, ℤ, pos, negsuc, ◌+ℤ◌, length, get_or}
use Rattle.std.proofs.Math.Option.{Option, none, some}
use Rattle.integers.specs.Equality.{eq_z}
use Rattle.octets.specs.Octets.{signed}
use Rattle.galley_file.specs.Font.{size_index, is_double}
use Rattle.galley_file.specs.declared.character.Character.{Character}
use Rattle.galley_file.specs.declared.item.Item.{Item}
use Rattle.galley_file.specs.Character.{valid_x}
use Rattle.galley_file.specs.Item.{characters_of}
use Rattle.galley_file.specs.Galley.{max_items}
use Rattle.extents.specs.FontMarks.{uses}
use Rattle.dvi.specs.Writer.{Position}
use Rattle.dvi2.specs.Command.{PUT1, EOP, RIGHT1, DOWN1, FNTNUM0, FNT1, FNTDEF1}
use Rattle.dvi2.specs.Writer.{selects, definition, shortest}

-- ---- lists of bytes

unfoldable pub same : List ℕ → List ℕ → Bool
same [] [] = true
same [] (y ∷ ys) = false
same (x ∷ xs) [] = false
same (x ∷ xs) (y ∷ ys) = eqb x y && same xs ys

-- the first begins the second
unfoldable pub begins : List ℕ → List ℕ → Bool
begins [] ys = true
begins (x ∷ xs) [] = false
begins (x ∷ xs) (y ∷ ys) = eqb x y && begins xs ys

-- some number below n
unfoldable pub some_below : ℕ → (ℕ → Bool) → Bool
some_below zero p = false
some_below (suc n) p = p n || some_below n p

-- ---- the commands of a page

pub data PageCommand : Type 0 where
  ending : PageCommand  -- eop
  defining : ℕ → PageCommand  -- fnt_def1
  selecting : ℕ → PageCommand  -- fnt_num or fnt1
  across : ℤ → PageCommand  -- right
  downward : ℤ → PageCommand  -- down
  putting : ℕ → PageCommand  -- put1

-- as the writer has them
unfoldable pub in_bytes : PageCommand → List ℕ
in_bytes ending = EOP ∷ []
in_bytes (defining f) = definition f
in_bytes (selecting f) = selects f
in_bytes (across m) = shortest RIGHT1 m
in_bytes (downward m) = shortest DOWN1 m
in_bytes (putting c) = PUT1 ∷ c ∷ []

-- by the opcode; the bytes are then compared
unfoldable pub command_of : List ℕ → PageCommand
command_of [] = ending
command_of (op ∷ ps) =
    cond (eqb op PUT1) (putting (get_or ps 0 0))
    (cond (eqb op EOP) ending
    (cond (eqb op FNTDEF1) (defining (get_or ps 0 0))
    (cond (eqb op FNT1) (selecting (get_or ps 0 0))
    (cond (leb FNTNUM0 op) (selecting (op - FNTNUM0)) (cond (leb DOWN1 op) (downward (signed ps)) (across (signed ps)))))))

-- ---- how far a page is read

-- what is there of the next character
pub data Stage : Type 0 where
  ready : Stage  -- nothing
  named : Stage  -- the definition of its font
  chosen : Stage  -- its font, that differs from the last
  moved : Stage  -- a move right, and perhaps the font
  lowered : Stage  -- a move down, and perhaps these

pub record PageState : Type 0 where
  -- the items before it
  pub items : List Item
  pub stage : Stage
  -- the font and the place to which the commands so far lead
  pub position : Position

abbrev pub is_ready : Stage → Bool
is_ready ready = true
is_ready named = false
is_ready chosen = false
is_ready moved = false
is_ready lowered = false

-- a move right, a move down, a put may follow
abbrev pub before_right : Stage → Bool
before_right ready = true
before_right named = false
before_right chosen = true
before_right moved = false
before_right lowered = false

abbrev pub before_down : Stage → Bool
before_down ready = true
before_down named = false
before_down chosen = true
before_down moved = true
before_down lowered = false

abbrev pub before_put : Stage → Bool
before_put ready = true
before_put named = false
before_put chosen = true
before_put moved = true
before_put lowered = true

-- one item more is within the limit
abbrev pub is_more : List Item → Bool
is_more is = ltb (length is) max_items

abbrev pub is_font : Option ℕ → ℕ → Bool
is_font none f = false
is_font (some g) f = eqb g f

-- after its definition only the font itself; else one that was defined and differs
abbrev pub may_choose : Stage → List Character → Option ℕ → ℕ → Bool
may_choose ready cs o f = uses f cs && not (is_font o f)
may_choose named cs o f = is_font o f
may_choose chosen cs o f = false
may_choose moved cs o f = false
may_choose lowered cs o f = false

-- a character of this font may stand there
abbrev pub valid_in : Option ℕ → ℤ → Bool
valid_in none x = false
valid_in (some f) x = valid_x (is_double (size_index f)) x

-- the place down of the greatest height
abbrev pub lowest : ℕ
lowest = 3000000

-- three times a height
unfoldable pub is_downward : ℤ → Bool
is_downward (pos n) = eqb (n % 3) 0 && leb n lowest
is_downward (negsuc n) = false

unfoldable pub may_come : PageState → PageCommand → Bool
may_come h ending = is_ready h.stage
may_come h (defining f) = is_more h.items && (is_ready h.stage && (ltb f 120 && not (uses f (characters_of h.items))))
may_come h (selecting f) = is_more h.items && may_choose h.stage (characters_of h.items) h.position.font f
may_come h (across m) = is_more h.items && (before_right h.stage && (not (eq_z m (pos 0)) && valid_in h.position.font (h.position.x +ℤ m)))
may_come h (downward m) =
    is_more h.items && (before_down h.stage && (not (eq_z m (pos 0)) && (valid_in h.position.font h.position.x && is_downward (h.position.y +ℤ m))))
may_come h (putting c) = is_more h.items && (before_put h.stage && (valid_in h.position.font h.position.x && (leb 1 c && leb c 108)))
