-- What stands behind a reader that has come to a state: the bytes that the writer has made by then, and that it can go on from there.
--     open_bytes       a file through some items
--     way_to           the commands from a writing to a font and a place
--     PageReached     inside a page
--     Reached         in any state
-- Assumes nothing.
use Rattle.std.specs.Prelude.{◌≡◌, true, ℕ, ◌<◌, pos, negsuc, ◌-ℤ◌, length, ◌≤ℤ◌}
use mathlib.Core.List.{List, [], ◌∷◌, ◌++◌, flatten}
use Rattle.std.proofs.Math.Option.{some}
use Rattle.galley_file.specs.Font.{size_index, is_double}
use Rattle.galley_file.specs.Character.{valid_x}
use Rattle.galley_file.specs.declared.item.Item.{Item}
use Rattle.galley_file.specs.Item.{characters_of}
use Rattle.galley_file.specs.Galley.{max_items}
use Rattle.extents.specs.FontMarks.{uses}
use Rattle.dvi.specs.Writer.{Position}
use Rattle.dvi2.specs.Command.{RIGHT1, DOWN1}
use Rattle.dvi2.specs.Writer.{selects, definition, font_change, move, preamble_bytes, Writing, first_writing, items_bytes, writing_after_all, pages_bytes, dvi2_file}
use Rattle.dvi2_reading.specs.Beginning.{Writable}
use Rattle.dvi2_reading.specs.SizeLaws.{Command}
use Rattle.dvi2_reading.specs.PageReading.{Stage, ready, named, chosen, moved, lowered, PageState, is_downward}
use Rattle.dvi2_reading.specs.Reading.{with_font, first_bop, State, start, opened, in_page, between, closing}

abbrev pub writing_of : List Item → Writing
writing_of is = writing_after_all first_writing is

unfoldable pub open_bytes : List Item → List ℕ
open_bytes is = preamble_bytes ++ (first_bop ++ items_bytes first_writing is)

unfoldable pub way_to : Writing → ℕ → Position → List ℕ
way_to p f to = font_change (uses f p.behind) p.position.font f ++ (move RIGHT1 (to.x -ℤ p.position.x) ++ move DOWN1 (to.y -ℤ p.position.y))

-- ---- inside a page, by what is there of the next character; `rest` are its bytes

pub record AtReady (is : List Item) (position : Position) (rest : List ℕ) : Type 0 where
  pub position_is : position ≡ (writing_of is).position
  pub rest_is : rest ≡ []
  pub fonts : (g : ℕ) → position.font ≡ some g → (g < 120) × (uses g (characters_of is) ≡ true)

pub record AtNamed (is : List Item) (position : Position) (rest : List ℕ) : Type 0 where
  pub font : ℕ
  pub small : font < 120
  pub more : length is < max_items
  pub position_is : position ≡ with_font (writing_of is).position font
  pub rest_is : rest ≡ definition font
  pub change : font_change (uses font (writing_of is).behind) (writing_of is).position.font font ≡ definition font ++ selects font

-- the font and the moves
pub record Way (is : List Item) (position : Position) (rest : List ℕ) : Type 0 where
  pub font : ℕ
  pub font_is : position.font ≡ some font
  pub small : font < 120
  pub rest_is : rest ≡ way_to (writing_of is) font position

pub record AtChosen (is : List Item) (position : Position) (rest : List ℕ) : Type 0 where
  pub way : Way is position rest
  pub more : length is < max_items
  pub x_is : position.x ≡ (writing_of is).position.x
  pub y_is : position.y ≡ (writing_of is).position.y

pub record AtMoved (is : List Item) (position : Position) (rest : List ℕ) : Type 0 where
  pub way : Way is position rest
  pub more : length is < max_items
  pub x_valid : valid_x (is_double (size_index way.font)) position.x ≡ true
  pub y_is : position.y ≡ (writing_of is).position.y

pub record AtLowered (is : List Item) (position : Position) (rest : List ℕ) : Type 0 where
  pub way : Way is position rest
  pub more : length is < max_items
  pub x_valid : valid_x (is_double (size_index way.font)) position.x ≡ true

abbrev pub Staged : Stage → List Item → Position → List ℕ → Type 0
Staged ready is position rest = AtReady is position rest
Staged named is position rest = AtNamed is position rest
Staged chosen is position rest = AtChosen is position rest
Staged moved is position rest = AtMoved is position rest
Staged lowered is position rest = AtLowered is position rest

pub record PageReached (h : PageState) (bs : List ℕ) : Type 0 where
  pub writable : Writable h.items
  pub x_between : (negsuc 54 ≤ℤ h.position.x) × (h.position.x ≤ℤ pos 3239)
  pub y_down : is_downward h.position.y ≡ true
  pub rest : List ℕ
  pub bytes_are : bs ≡ open_bytes h.items ++ rest
  pub staged : Staged h.stage h.items h.position rest

-- ---- in any state

pub record Between (is : List Item) (bs : List ℕ) : Type 0 where
  pub writable : Writable is
  pub bytes_are : bs ≡ pages_bytes is

-- each is one command
pub data Commands : List (List ℕ) → Type 0 where
  no_more : Commands []
  one_more : {e : List ℕ} {es : List (List ℕ)} → Command e → Commands es → Commands (e ∷ es)

pub record Closing (is : List Item) (es : List (List ℕ)) (bs : List ℕ) : Type 0 where
  pub writable : Writable is
  pub bytes_are : bs ++ flatten es ≡ dvi2_file is
  pub commands : Commands es

abbrev pub Reached : State → List ℕ → Type 0
Reached start bs = bs ≡ []
Reached opened bs = bs ≡ preamble_bytes
Reached (in_page h) bs = PageReached h bs
Reached (between is) bs = Between is bs
Reached (closing is es) bs = Closing is es bs
