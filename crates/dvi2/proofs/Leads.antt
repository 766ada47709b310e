-- What some bytes do to a page that stands where a position does.
--     Stands           a page stands where the position does
--     Reached          from this page the bytes lead to one that stands at a position
--     Leads            from any page that stands at one position to one that stands at another
--     leads_append     bytes after bytes
-- Assumes nothing.
use mathlib.Core.Path.{◌≡◌}
use mathlib.Core.Bool.{true}
use mathlib.Core.List.{List, [], ◌++◌}
use mathlib.Core.Option.{Option, none, some}
use Prim.Native.Nat.{ℕ}
use lib.IntN.{ℤ, pos}
use Rattle.galley_file.specs.declared.character.Character.{Character}
use Rattle.sheet.specs.Sheet.{Mark}
use Rattle.dvi.specs.Page.{Page}
use Rattle.extents.specs.FontMarks.{uses}
use Rattle.dvi.specs.Writer.{Position}
use Rattle.dvi2.specs.Page.{inside, is_defined}
use Rattle.dvi2.proofs.Runs.{Goes, goes_append}

abbrev pub as_signed : Option ℕ → Option ℤ
as_signed none = none
as_signed (some f) = some (pos f)

-- The page stands where the position does, and its stack is empty. The fonts of the characters set so far are defined, and so is the position's.
pub record Stands (cs : List Character) (position : Position) (fs : List ℤ) (p : Page) : Type 0 where
  pub at_x : p.numbers.x_at ≡ position.x
  pub at_y : p.numbers.y_at ≡ position.y
  pub at_font : p.font ≡ as_signed position.font
  pub at_stack : p.stack ≡ []
  pub used : (f : ℕ) → uses f cs ≡ true → is_defined (pos f) fs ≡ true
  pub current : (f : ℕ) → position.font ≡ some f → is_defined (pos f) fs ≡ true

-- from this page the bytes show ms, and lead to one that stands at the position
pub record Reached (fs : List ℤ) (p : Page) (bs : List ℕ) (ms : List Mark) (cs : List Character) (position : Position) : Type 0 where
  pub fonts : List ℤ
  pub page : Page
  pub stands : Stands cs position fonts page
  pub goes : Goes (inside fs p) bs ms (inside fonts page)

-- from any page that stands at the one position the bytes show ms and lead to one that stands at the other
pub record Leads (cs : List Character) (position : Position) (bs : List ℕ) (ms : List Mark) (ds : List Character) (to : Position) : Type 0 where
  pub lead : (fs : List ℤ) (p : Page) → Stands cs position fs p → Reached fs p bs ms ds to

pub leads_append : {cs ds es : List Character} {position mid to : Position} {bs bs' : List ℕ} {ms ns : List Mark} → Leads cs position bs ms ds mid → Leads ds mid bs' ns es to
    → Leads cs position (bs ++ bs') (ms ++ ns) es to
leads_append {cs} {ds} {es} {position} {mid} {to} {bs} {bs'} {ms} {ns} f g = record { lead = λ fs p h. both (f.lead fs p h) }
  where
    chain : {fs : List ℤ} {p : Page} (r : Reached fs p bs ms ds mid) → Reached r.fonts r.page bs' ns es to → Reached fs p (bs ++ bs') (ms ++ ns) es to
    chain r s = record { fonts = s.fonts; page = s.page; stands = s.stands; goes = goes_append r.goes s.goes }

    both : {fs : List ℤ} {p : Page} → Reached fs p bs ms ds mid → Reached fs p (bs ++ bs') (ms ++ ns) es to
    both r = chain r (g.lead r.fonts r.page r.stands)

-- ---- the position with another font or place

abbrev pub position_in : Position → ℕ → Position
position_in position f = record { font = some f; x = position.x; y = position.y }

abbrev pub position_x : Position → ℤ → Position
position_x position a = record { font = position.font; x = a; y = position.y }

abbrev pub position_y : Position → ℤ → Position
position_y position b = record { font = position.font; x = position.x; y = b }
