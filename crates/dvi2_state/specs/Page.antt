-- The code's types as those of the definitions, and what a step is.
--     stage_of, page_state_of        a state of a page, after some items
--     page_position                its position
--     SoundPage                   its position is on the page, and its font is one of the 120
--     step_of                     a step, or what is wrong with a command
--     StepIs                      a step is that of the command at a place, after these items
--     StepsAs                     and so it is after any items to which one can be added
--     MayMove                     a move of some bytes stands at a place
--     right_begins, down_begins     some bytes begin a move from a position to a place
use Rattle.std.specs.Prelude.{ℕ, ◌+◌, ◌≤◌, ◌<◌, ◌≡◌, Bool, not, ◌&&◌, List, [], ◌∷◌, ◌++◌, ℤ, pos, ◌-ℤ◌, ◌*ℤ◌, length, get_or, drop, Result, Ok, Err}
use Rattle.std.proofs.Math.Option.{some}
use Rattle.integers.specs.Equality.{eq_z}
use Rattle.galley_file.specs.declared.item.Item.{Item}
use Rattle.galley_file.specs.declared.item.Item.TheVariants.{Placed}
use Rattle.galley_file.specs.Galley.{max_items}
use Rattle.dvi.specs.Writer.{Position}
use Rattle.dvi.specs.FontOrNone.{font_or_none}
use Rattle.dvi2.specs.Command.{RIGHT1, DOWN1}
use Rattle.dvi2.specs.Writer.{shortest}
use Rattle.dvi2_commands.specs.Position.{OnPage}
use Rattle.dvi2_reading.specs.PageReading as Page
use Rattle.dvi2_reading.specs.Reading as R
use Rattle.dvi2_state.specs.declared.page_state.Stage.{Stage}
use Rattle.dvi2_state.specs.declared.page_state.Stage.TheVariants.{Ready, Named, Chosen, Moved, Lowered}
use Rattle.dvi2_state.specs.declared.page_state.PageState.{PageState}
use Rattle.dvi2_state.specs.declared.page_state.Stepped.{Stepped}
use Rattle.dvi2_state.specs.declared.page_state.Stepped.TheVariants.{End, Put, Go}
use Rattle.dvi2_state.specs.declared.page_state.Wrong.{Wrong}
use Rattle.dvi2_state.specs.declared.page_state.Wrong.TheVariants.{Bad, Short}

abbrev pub stage_of : Stage → Page.Stage
stage_of Ready = Page.ready
stage_of Named = Page.named
stage_of Chosen = Page.chosen
stage_of Moved = Page.moved
stage_of Lowered = Page.lowered

-- a quantum is three units
abbrev pub page_position : PageState → Position
page_position h = record { font = font_or_none h.font; x = h.x.0; y = pos 3 *ℤ h.height.0 }

abbrev pub page_state_of : List Item → PageState → Page.PageState
page_state_of is h = record { items = is; stage = stage_of h.stage; position = page_position h }

pub record SoundPage (h : PageState) : Type 0 where
  pub on_page : OnPage (page_position h)
  pub font_valid : (f : ℕ) → font_or_none h.font ≡ some f → f < 120

abbrev pub step_of : List Item → PageState → Result Stepped Wrong → R.Step
step_of is h (Err Bad) = R.refuse
step_of is h (Err Short) = R.short
step_of is h (Ok End) = R.go (R.between is) 0
step_of is h (Ok (Put c)) =
    R.go (R.in_page (record { items = is ++ (Placed (R.character_of (page_position h) c) ∷ []); stage = Page.ready; position = page_position h })) 1
step_of is h (Ok (Go g n)) = R.go (R.in_page (page_state_of is g)) n

abbrev pub StepIs : List ℕ → ℕ → PageState → List Item → Result Stepped Wrong → Type 0
StepIs s at h is r = step_of is h r ≡ R.step (R.in_page (page_state_of is h)) (get_or s at 0) (drop (at + 1) s)

abbrev pub StepsAs : List ℕ → ℕ → PageState → Result Stepped Wrong → Type 0
StepsAs s at h r = (is : List Item) → length is < max_items → StepIs s at h is r

-- a command with this opcode stands at a place: a move of k bytes, from a sound state
pub record MayMove (s : List ℕ) (at op k : ℕ) (h : PageState) : Type 0 where
  pub inside : at < length s
  pub opcode_is : get_or s at 0 ≡ op
  pub some_bytes : 1 ≤ k
  pub few_bytes : k ≤ 4
  pub sound : SoundPage h

-- a move right to this place, where a character of the position's font may stand
unfoldable pub right_begins : List ℕ → Position → ℤ → Bool
right_begins s p to = Page.begins s (shortest RIGHT1 (to -ℤ p.x)) && (not (eq_z (to -ℤ p.x) (pos 0)) && Page.valid_in p.font to)

-- a move down to this place
unfoldable pub down_begins : List ℕ → Position → ℤ → Bool
down_begins s p to = Page.begins s (shortest DOWN1 (to -ℤ p.y)) && not (eq_z (to -ℤ p.y) (pos 0))
