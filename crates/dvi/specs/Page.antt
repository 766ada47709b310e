-- The state of a page, and the effect of each command (002; document 01, "DVI").
--     Numbers      the six numbers that PUSH and POP keep
--     Page         the numbers, the font and the stack
--     new_page      the page after BOP
--     Effect       what a command does
--     effect       the effect of each command, with these widths, on this page
use Rattle.std.specs.Prelude.{ℕ, ◌+◌, ◌*◌, cond, ◌&&◌, List, [], ◌∷◌, ltb, ℤ, pos, negsuc, ◌+ℤ◌, length, get_or}
use Rattle.std.proofs.Math.Option.{Option, none, some}
use Rattle.octets.specs.Octets.{fits32}
use Rattle.octets.specs.Answer.{stack_full, stack_empty, entries_left, cannot_set, out_of32_bits}
use Rattle.sheet.specs.Sheet.{Mark, char_mark, rule_mark}
use Rattle.sheet.specs.Readable.{font_chars}
use Rattle.dvi.specs.Command.{Command, set_char, nop, eop, push, pop, vert_rule, horz_rule, horz_char, set_font, move_w, move_w0, move_x, move_x0, move_y, move_y0, move_z, move_z0}

-- the entries of the stack
abbrev pub max_stack : ℕ
max_stack = 200

-- ---- the state

-- the X- and Y-coordinates and the W-, X-, Y- and Z-amounts
pub record Numbers : Type 0 where
  pub x_at : ℤ
  pub y_at : ℤ
  pub amount_w : ℤ
  pub amount_x : ℤ
  pub amount_y : ℤ
  pub amount_z : ℤ

pub record Page : Type 0 where
  pub numbers : Numbers
  pub font : Option ℤ
  pub stack : List Numbers

-- BOP zeroes all six numbers and unsets the font; the stack is empty
unfoldable pub new_page : Page
new_page =
    record {
      numbers = record { x_at = pos 0; y_at = pos 0; amount_w = pos 0; amount_x = pos 0; amount_y = pos 0; amount_z = pos 0 };
      font = none;
      stack = [];
    }

-- ---- the effect of a command

pub data Effect : Type 0 where
  -- it is refused with this number
  fault : ℕ → Effect
  -- the page goes on
  moved : Page → Effect
  -- the page goes on, and shows this
  marked : Page → Mark → Effect
  -- the page ends
  ended : Effect

unfoldable pub with_numbers : Page → Numbers → Page
with_numbers p n = record { numbers = n; font = p.font; stack = p.stack }

unfoldable pub with_font : Page → ℤ → Page
with_font p f = record { numbers = p.numbers; font = some f; stack = p.stack }

-- a move to the right, and a move down
unfoldable pub right_by : ℤ → Numbers → Numbers
right_by m n =
    record { x_at = n.x_at +ℤ m; y_at = n.y_at; amount_w = n.amount_w; amount_x = n.amount_x; amount_y = n.amount_y; amount_z = n.amount_z }

unfoldable pub down_by : ℤ → Numbers → Numbers
down_by m n =
    record { x_at = n.x_at; y_at = n.y_at +ℤ m; amount_w = n.amount_w; amount_x = n.amount_x; amount_y = n.amount_y; amount_z = n.amount_z }

-- another amount
unfoldable pub set_w : ℤ → Numbers → Numbers
set_w m n = record { x_at = n.x_at; y_at = n.y_at; amount_w = m; amount_x = n.amount_x; amount_y = n.amount_y; amount_z = n.amount_z }

unfoldable pub set_x : ℤ → Numbers → Numbers
set_x m n = record { x_at = n.x_at; y_at = n.y_at; amount_w = n.amount_w; amount_x = m; amount_y = n.amount_y; amount_z = n.amount_z }

unfoldable pub set_y : ℤ → Numbers → Numbers
set_y m n = record { x_at = n.x_at; y_at = n.y_at; amount_w = n.amount_w; amount_x = n.amount_x; amount_y = m; amount_z = n.amount_z }

unfoldable pub set_z : ℤ → Numbers → Numbers
set_z m n = record { x_at = n.x_at; y_at = n.y_at; amount_w = n.amount_w; amount_x = n.amount_x; amount_y = n.amount_y; amount_z = m }

-- 28: x or y leaves signed 32 bits
unfoldable pub if_fits : Numbers → Effect → Effect
if_fits n e = cond (fits32 n.x_at && fits32 n.y_at) e (fault out_of32_bits)

-- the page goes on with the numbers n, and perhaps shows m
unfoldable pub go_to : Page → Numbers → Effect
go_to p n = if_fits n (moved (with_numbers p n))

unfoldable pub show_and_go_to : Page → Mark → Numbers → Effect
show_and_go_to p m n = if_fits n (marked (with_numbers p n) m)

-- character c in font f, and a rule, at the current position
unfoldable pub char_here : Page → ℤ → ℕ → Mark
char_here p f c = char_mark p.numbers.x_at p.numbers.y_at f c

unfoldable pub rule_here : Page → ℕ → ℤ → ℤ → Mark
rule_here p kind h w = rule_mark kind p.numbers.x_at p.numbers.y_at h w

-- the width of character c in font f: 128 for each of the fonts 0, 1, .., as far as the table goes
unfoldable pub width_in : List ℤ → ℤ → ℕ → Option ℤ
width_in ws (pos f) c = cond (ltb (font_chars * f + c) (length ws)) (some (get_or ws (font_chars * f + c) (pos 0))) none
width_in ws (negsuc f) c = none

-- 0 to 127: the character at the current position, which moves right by its width; 27: no font, or no width
unfoldable pub set_moving : Page → ℕ → ℤ → Option ℤ → Effect
set_moving p c f none = fault cannot_set
set_moving p c f (some w) = show_and_go_to p (char_here p f c) (right_by w p.numbers)

unfoldable pub set_in_font : List ℤ → Page → ℕ → Option ℤ → Effect
set_in_font ws p c none = fault cannot_set
set_in_font ws p c (some f) = set_moving p c f (width_in ws f c)

-- HORZCHAR: the character at the current position, which stays; 27: no font, or outside 0 to 127
unfoldable pub set_still : Page → ℤ → Option ℤ → Effect
set_still p c none = fault cannot_set
set_still p (pos c) (some f) = cond (ltb c font_chars) (marked p (char_here p f c)) (fault cannot_set)
set_still p (negsuc c) (some f) = fault cannot_set

-- PUSH; 24: onto 200 entries
unfoldable pub pushed : Page → Effect
pushed p =
    cond (ltb (length p.stack) max_stack)
    (moved (record { numbers = p.numbers; font = p.font; stack = p.numbers ∷ p.stack }))
    (fault stack_full)

-- POP: the six numbers, and not the font; 25: of none
unfoldable pub popped : Page → List Numbers → Effect
popped p [] = fault stack_empty
popped p (n ∷ ns) = moved (record { numbers = n; font = p.font; stack = ns })

-- EOP; 26: with entries left
unfoldable pub end_page : List Numbers → Effect
end_page [] = ended
end_page (n ∷ ns) = fault entries_left

unfoldable pub effect : List ℤ → Page → Command → Effect
effect ws p (set_char c) = set_in_font ws p c p.font
effect ws p nop = moved p
effect ws p eop = end_page p.stack
effect ws p push = pushed p
effect ws p pop = popped p p.stack
-- VERTRULE moves right by its width, HORZRULE stays
effect ws p (vert_rule h w) = show_and_go_to p (rule_here p 0 h w) (right_by w p.numbers)
effect ws p (horz_rule h w) = marked p (rule_here p 1 h w)
effect ws p (horz_char c) = set_still p c p.font
effect ws p (set_font f) = moved (with_font p f)
-- W and X: move right, and put the parameter into the amount; W0 and X0: move right by the amount
effect ws p (move_w m) = go_to p (set_w m (right_by m p.numbers))
effect ws p move_w0 = go_to p (right_by p.numbers.amount_w p.numbers)
effect ws p (move_x m) = go_to p (set_x m (right_by m p.numbers))
effect ws p move_x0 = go_to p (right_by p.numbers.amount_x p.numbers)
-- Y and Z: the same down
effect ws p (move_y m) = go_to p (set_y m (down_by m p.numbers))
effect ws p move_y0 = go_to p (down_by p.numbers.amount_y p.numbers)
effect ws p (move_z m) = go_to p (set_z m (down_by m p.numbers))
effect ws p move_z0 = go_to p (down_by p.numbers.amount_z p.numbers)
