-- Fonts by their marks.
--     Known           what two marks tell of some items
--     StepsWith       a step is that of the command at a place, after any items of these marks to which one can be added
--     chooses_high     a font from 64 on may be chosen
--     is_free          a font is not used
use Rattle.std.specs.Prelude.{ℕ, ◌<◌, ◌≡◌, Bool, true, not, ◌&&◌, List, leb, length, Result}
use Rattle.std.proofs.Math.Option.{Option}
use Rattle.galley_file.specs.declared.character.Character.{Character}
use Rattle.galley_file.specs.declared.item.Item.{Item}
use Rattle.galley_file.specs.Item.{characters_of}
use Rattle.galley_file.specs.Galley.{max_items}
use Rattle.extents.specs.declared.fonts.Fonts.{Fonts}
use Rattle.extents.specs.FontMarks.{uses, FontsAre}
use Rattle.dvi2_reading.specs.PageReading as Page
use Rattle.dvi2_state.specs.declared.page_state.PageState.{PageState}
use Rattle.dvi2_state.specs.declared.page_state.Stepped.{Stepped}
use Rattle.dvi2_state.specs.declared.page_state.Wrong.{Wrong}
use Rattle.dvi2_state.specs.Page.{StepIs}

-- the fonts of their characters, which are all among the 120
pub record Known (low high : ℕ) (is : List Item) : Type 0 where
  pub fonts : FontsAre low high (characters_of is)
  pub small : (f : ℕ) → uses f (characters_of is) ≡ true → f < 120

abbrev pub StepsWith : List ℕ → ℕ → PageState → Fonts → Result Stepped Wrong → Type 0
StepsWith s at h used r = (is : List Item) → length is < max_items → Known used.low used.high is → StepIs s at h is r

-- a font from 64 on that may be chosen
unfoldable pub chooses_high : Page.Stage → List Character → Option ℕ → ℕ → Bool
chooses_high s cs o f = leb 64 f && Page.may_choose s cs o f

-- a font that is not used
unfoldable pub is_free : List Character → ℕ → Bool
is_free cs f = not (uses f cs)
