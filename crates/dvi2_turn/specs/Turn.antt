-- One turn.
--     Turning      what it starts from
--     Turned       what it tells, from these items on
use Rattle.std.specs.Prelude.{◌≡◌, List, [], ◌∷◌, ◌++◌, ℕ, ◌<◌, Result, Ok, Err}
use Rattle.galley_file.specs.declared.item.Item.{Item}
use Rattle.dvi2_reading.specs.Reading.{in_page, gives, bad, read_file}
use Rattle.dvi2_reading.specs.Reached.{writing_of}
use Rattle.dvi2_reading.specs.Standing.{Standing}
use Rattle.dvi2_close.specs.declared.expect.NotOurs.{NotOurs}
use Rattle.dvi2_state.specs.declared.page_state.PageState.{PageState}
use Rattle.dvi2_state.specs.Page.{page_state_of}
use Rattle.dvi2_turn.specs.declared.tally.Tally.{Tally}
use Rattle.dvi2_turn.specs.declared.turn.Turn.{Turn}
use Rattle.dvi2_turn.specs.declared.turn.Turn.TheVariants.{Whole, On, Set}
use Rattle.dvi2_turn.specs.Tally.{TallyIs}

pub record Turning (s : List ℕ) (at : ℕ) (h : PageState) (t : Tally) : Type 0 where
  pub items : List Item
  pub standing : Standing s (in_page (page_state_of items h)) at
  pub tally : TallyIs t items

-- each turn goes on from its place
abbrev pub Turned : List ℕ → List Item → ℕ → Result Turn NotOurs → Type 0
Turned s is at (Err w) = read_file s ≡ bad w.place
Turned s is at (Ok Whole) = read_file s ≡ gives is
Turned s is at (Ok (On g next)) = (at < next) × Standing s (in_page (page_state_of is g)) next
Turned s is at (Ok (Set i g next)) = (at < next) × ((next ≡ (writing_of (is ++ (i ∷ []))).at) × Standing s (in_page (page_state_of (is ++ (i ∷ [])) g)) next)
