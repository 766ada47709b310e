-- What the contracts of the check cite; nothing here is part of what a call promises.
use Rattle.std.specs.Prelude.{◌≡◌, List, ℕ, ◌+◌, ◌*◌, length}
use Rattle.galley_file.specs.declared.item.Item.{Item}
use Rattle.galley_check.specs.declared.Span.{Span}
use Rattle.galley_file.specs.Item.{characters_of, cuts_of}

-- the characters and the cuts of a list of items
pub record SpanOf (r : Span) (is : List Item) : Type 0 where
  pub characters_are : r.characters ≡ length (characters_of is)
  pub cuts_are : r.cuts ≡ cuts_of is

-- the same as one number: a character is 1, and a cut 2,048, more than the characters of a run
unfoldable pub run_number : List Item → ℕ
run_number is = length (characters_of is) + 2048 * cuts_of is
