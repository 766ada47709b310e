-- What reading a character back answers (document 01, "Numbers given back").
use Rattle.std.specs.Prelude.{ℕ, cond, List, ltb, pos, length, get_or, Result, Ok, Err}
use Rattle.octets.specs.Answer.{Outcome, accepted, refused, no_character, galley_too_long, galley_malformed, number_in}
use Rattle.octets.specs.declared.refusal.Refusal.{Refusal}
use Rattle.galley_file.specs.declared.character.Character.{Character}
use Rattle.galley_file.specs.declared.form.Form.TheVariants.{New}
use Rattle.galley_file.specs.Form.{max_galley}
use Rattle.galley_file.specs.Item.{characters_of}
use Rattle.galley_file.specs.Galley.{Reading, whole, malformed, read_galley}

-- What reading back gives: a character, or a refusal's number and place
pub data FoundOutcome : Type 0 where
  found : Character → FoundOutcome
  not_found : ℕ → ℕ → FoundOutcome

-- reading back writes nothing, so the length of an accepted call is 0
abbrev pub outcome_of_found : FoundOutcome → Outcome
outcome_of_found (found c) = accepted 0
outcome_of_found (not_found number place) = refused number place

-- all four numbers are 0 in a refusal
abbrev pub zeros : Character
zeros = record { x = record { 0 = pos 0 }; height = record { 0 = pos 0 }; font = 0; code = 0 }

abbrev pub character_of_found : FoundOutcome → Character
character_of_found (found c) = c
character_of_found (not_found number place) = zeros

-- the outcome that each case of the answer stands for
abbrev pub found_of : Result Character Refusal → FoundOutcome
found_of (Ok c) = found c
found_of (Err r) = not_found (number_in r.reason) r.place

-- character n of a galley that was read, cuts not counted: 41, then 11
abbrev pub pick_found : ℕ → Reading → FoundOutcome
pick_found n (whole is) = cond (ltb n (length (characters_of is))) (found (get_or (characters_of is) n zeros)) (not_found no_character 0)
pick_found n (malformed p) = not_found galley_malformed p

-- reading back: 40, 41, 11
unfoldable pub read_back_outcome : List ℕ → ℕ → FoundOutcome
read_back_outcome g n = cond (ltb (max_galley New) (length g)) (not_found galley_too_long 0) (pick_found n (read_galley New g))
