-- The state of a reader, and the effect of each command inside a page, as DVItype describes them. A page's state is that of 002: DVItype's h, v, w, x, y and z
-- are its two coordinates and four amounts.
--     per_unit        the thirds of an rsu in a unit
--     State          where a reader of a file stands
--     Effect         what a command does
--     effect         the effect of each command inside a page
use Rattle.std.specs.Prelude.{Bool, false, cond, ◌||◌, List, [], ◌∷◌, ℤ, pos, negsuc, ◌*ℤ◌}
use Rattle.std.proofs.Math.Option.{Option, none, some}
use Rattle.integers.specs.Equality.{eq_z}
use Rattle.sheet.specs.Sheet.{Mark, char_mark}
use Rattle.dvi.specs.Page.{Numbers, Page, with_numbers, with_font, right_by, down_by, set_w, set_x, set_y, set_z}
use Rattle.dvi2.specs.Command.{Command, mark_other, put, nop, eop, push, pop, right, move_w0, move_w, move_x0, move_x, down, move_y0, move_y, move_z0, move_z, set_font, special, define_font}

-- a unit is 1/432 inch, and an rsu 1/65,536 of 1/72 inch
abbrev pub per_unit : ℤ
per_unit = pos 32768

-- between pages or inside one, and the fonts that are defined
pub data State : Type 0 where
  between : List ℤ → State
  inside : List ℤ → Page → State

pub data Effect : Type 0 where
  -- the file shows nothing
  unknown : Effect
  -- the state after the command, and what it shows
  leads : State → List Mark → Effect

unfoldable pub is_defined : ℤ → List ℤ → Bool
is_defined f [] = false
is_defined f (g ∷ gs) = eq_z g f || is_defined f gs

-- the page goes on
unfoldable pub go_to : List ℤ → Page → Effect
go_to fs p = leads (inside fs p) []

unfoldable pub move_to : List ℤ → Page → Numbers → Effect
move_to fs p n = go_to fs (with_numbers p n)

-- put: character c in font f at (h, v), which stays
unfoldable pub put_here : List ℤ → Page → ℤ → Option ℤ → Effect
put_here fs p c none = unknown
put_here fs p (pos c) (some f) = leads (inside fs p) (char_mark (per_unit *ℤ p.numbers.x_at) (per_unit *ℤ p.numbers.y_at) f c ∷ [])
put_here fs p (negsuc c) (some f) = unknown

-- push and pop: the six numbers, and not the font
unfoldable pub pushed : Page → Page
pushed p = record { numbers = p.numbers; font = p.font; stack = p.numbers ∷ p.stack }

unfoldable pub popped : List ℤ → Page → List Numbers → Effect
popped fs p [] = unknown
popped fs p (n ∷ ns) = go_to fs (record { numbers = n; font = p.font; stack = ns })

unfoldable pub end_page : List ℤ → List Numbers → Effect
end_page fs [] = leads (between fs) []
end_page fs (n ∷ ns) = unknown

unfoldable pub effect : List ℤ → Page → Command → Effect
effect fs p mark_other = unknown
effect fs p (put c) = put_here fs p c p.font
effect fs p nop = go_to fs p
effect fs p eop = end_page fs p.stack
effect fs p push = go_to fs (pushed p)
effect fs p pop = popped fs p p.stack
-- to the right: w0 and x0 by w and x, which w1 to w4 and x1 to x4 set first
effect fs p (right m) = move_to fs p (right_by m p.numbers)
effect fs p move_w0 = move_to fs p (right_by p.numbers.amount_w p.numbers)
effect fs p (move_w m) = move_to fs p (set_w m (right_by m p.numbers))
effect fs p move_x0 = move_to fs p (right_by p.numbers.amount_x p.numbers)
effect fs p (move_x m) = move_to fs p (set_x m (right_by m p.numbers))
-- down: y and z the same
effect fs p (down m) = move_to fs p (down_by m p.numbers)
effect fs p move_y0 = move_to fs p (down_by p.numbers.amount_y p.numbers)
effect fs p (move_y m) = move_to fs p (set_y m (down_by m p.numbers))
effect fs p move_z0 = move_to fs p (down_by p.numbers.amount_z p.numbers)
effect fs p (move_z m) = move_to fs p (set_z m (down_by m p.numbers))
-- a font must have been defined
effect fs p (set_font f) = cond (is_defined f fs) (go_to fs (with_font p f)) unknown
effect fs p special = go_to fs p
effect fs p (define_font f) = go_to (f ∷ fs) p
