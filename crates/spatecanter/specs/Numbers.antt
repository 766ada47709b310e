-- What reading back finds, as the numbers that a caller's array is given.
use Rattle.std.specs.Prelude.{List, ℤ}
use Rattle.galley_check.specs.Found.{FoundOutcome, character_of_found}
use Rattle.galley_items.specs.Here.{character_numbers}

-- x, height, font number and character, all 0 in a refusal
abbrev pub found_numbers : FoundOutcome → List ℤ
found_numbers f = character_numbers (character_of_found f)
