-- What converting a galley gives (document 02, "Old galleys and new").
--     new_result      of an old galley: the same items in the new form
--     old_result      of a new galley: the same items in the old form, where it holds their heights
--     form_result     of a galley that the check of its form accepts
--     Same           two galleys, each by its own form's rules, of the same characters and cuts, in order
--     Above          a character of a list is higher than the old form holds
use Rattle.std.specs.Prelude.{ℕ, List, ◌∷◌, ◌++◌, ◌≡◌, length, ◌<ℤ◌}
use Rattle.octets.specs.Field.{end_field}
use Rattle.octets.specs.Answer.{Result, written, if_room, no_converted_room}
use Rattle.measure.specs.Place.{low_end}
use Rattle.galley_file.specs.declared.character.Character.{Character}
use Rattle.galley_file.specs.declared.form.Form.{Form}
use Rattle.galley_file.specs.declared.form.Form.TheVariants.{Old, New}
use Rattle.galley_file.specs.declared.item.Item.{Item}
use Rattle.galley_file.specs.Item.{characters_of}
use Rattle.galley_file.specs.Galley.{fields, galley, whole, read_galley, items_of}
use Rattle.galley_check.specs.Result.{checked_result}
use Rattle.galley_check.specs.Low.{low_result}

-- 40 and 41, else the items in the new form; 44 last
unfoldable pub new_result : List ℕ → ℕ → Result
new_result old room = if_room no_converted_room room (checked_result Old (λ is. written (galley New is)) old)

-- 40, 41 and 43, else the items in the old form; 44 last
unfoldable pub old_result : List ℕ → ℕ → Result
old_result new room = if_room no_converted_room room (low_result (galley Old) new)

unfoldable pub form_result : Form → Form → List ℕ → ℕ → Result
form_result from to g room = if_room no_converted_room room (written (galley to (items_of from g)))

-- "each character keeps its x, height, font number and character, and order, cuts and End pass unchanged"
pub record Same (from to : Form) (g h : List ℕ) : Type 0 where
  pub items : List Item
  pub read_from : read_galley from g ≡ whole items
  pub read_to : read_galley to h ≡ whole items
  pub fields_from : g ≡ fields from items ++ end_field (length (characters_of items))
  pub fields_to : h ≡ fields to items ++ end_field (length (characters_of items))

-- some height is above 65,535
pub data Above : List Character → Type 0 where
  here : {c : Character} {cs : List Character} → low_end <ℤ c.height.0 → Above (c ∷ cs)
  later : {c : Character} {cs : List Character} → Above cs → Above (c ∷ cs)
