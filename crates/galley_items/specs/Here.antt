-- What stands at a place of a galley.
--     HereOutcome      an item, or a refusal's number and place
--     here_outcome      the item whose whole field starts at a place, else 41 there, at End too
--     outcome_of_here    its three numbers: the length is that of the field
--     character_numbers, here_numbers    what is told of the item, as numbers
use Rattle.std.specs.Prelude.{ℕ, List, [], ◌∷◌, ℤ, pos, drop, Result, Ok, Err}
use Rattle.std.proofs.Math.Option.{Option, none, some}
use Rattle.octets.specs.Answer.{Outcome, accepted, refused, galley_malformed, number_in}
use Rattle.octets.specs.declared.refusal.Refusal.{Refusal}
use Rattle.galley_file.specs.declared.character.Character.{Character}
use Rattle.galley_file.specs.declared.form.Form.TheVariants.{New}
use Rattle.galley_file.specs.declared.item.Item.{Item}
use Rattle.galley_file.specs.declared.item.Item.TheVariants.{Placed, Cut}
use Rattle.galley_file.specs.Item.{item_size, next_item}

pub data HereOutcome : Type 0 where
  is_item : Item → HereOutcome
  no_item : ℕ → ℕ → HereOutcome

-- the outcome that each case of the answer stands for
abbrev pub here_of : Result Item Refusal → HereOutcome
here_of (Ok i) = is_item i
here_of (Err r) = no_item (number_in r.reason) r.place

abbrev pub or_malformed : ℕ → Option Item → HereOutcome
or_malformed at none = no_item galley_malformed at
or_malformed at (some i) = is_item i

unfoldable pub here_outcome : List ℕ → ℕ → HereOutcome
here_outcome g at = or_malformed at (next_item New (drop at g))

abbrev pub outcome_of_here : HereOutcome → Outcome
outcome_of_here (is_item i) = accepted (item_size New i)
outcome_of_here (no_item number place) = refused number place

-- x, height, font number and character
abbrev pub character_numbers : Character → List ℤ
character_numbers c = c.x.0 ∷ c.height.0 ∷ pos c.font ∷ pos c.code ∷ []

-- 1 and a character's numbers; 2 for a cut; all 0 in a refusal
abbrev pub here_numbers : HereOutcome → List ℤ
here_numbers (is_item (Placed c)) = pos 1 ∷ character_numbers c
here_numbers (is_item Cut) = pos 2 ∷ pos 0 ∷ pos 0 ∷ pos 0 ∷ pos 0 ∷ []
here_numbers (no_item number place) = pos 0 ∷ pos 0 ∷ pos 0 ∷ pos 0 ∷ pos 0 ∷ []
