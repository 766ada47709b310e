-- What a galley lists: characters, and the cuts between pages (document 02, "Software cuts").
--     field_of_cut       a cut's field
--     valid_item      a character is valid, its height at most so many quanta; a cut always is
--     item_field      an item's field, and item_size its bytes
--     next_item       the item whose whole field the bytes start with
--     item_at         the item whose field starts at a place, and WholeAt that one does
--     is_low          a DVI file holds the height
--     characters_of   the characters of a list of items, and cuts_of the number of its cuts
use Rattle.std.specs.Prelude.{ℕ, ◌+◌, ◌≤◌, Bool, true, cond, List, [], ◌∷◌, ◌≡◌, eqb, ℤ, length, get_or}
use Rattle.std.proofs.Math.Option.{Option, none, some}
use Rattle.std.specs.Int.Signed.{le_z}
use Rattle.measure.specs.Place.{low_end}
use Rattle.octets.specs.Field.{field, starts_field}
use Rattle.galley_file.specs.declared.character.Character.{Character}
use Rattle.galley_file.specs.declared.item.Item.{Item}
use Rattle.galley_file.specs.declared.item.Item.TheVariants.{Placed, Cut}
use Rattle.galley_file.specs.declared.form.Form.{Form}
use Rattle.galley_file.specs.Form.{character_size, greatest_height}
use Rattle.galley_file.specs.Character.{valid, character_field, character_at, is_character}

-- tag 6, length 0
unfoldable pub field_of_cut : List ℕ
field_of_cut = field 6 []

unfoldable pub is_cut : List ℕ → Bool
is_cut s = starts_field 6 0 s

abbrev pub valid_item : ℤ → Item → Bool
valid_item top (Placed c) = valid top c
valid_item top Cut = true

abbrev pub item_field : Form → Item → List ℕ
item_field f (Placed c) = character_field f c
item_field f Cut = field_of_cut

abbrev pub item_size : Form → Item → ℕ
item_size f (Placed c) = character_size f
item_size f Cut = 3

unfoldable pub next_item : Form → List ℕ → Option Item
next_item f s = cond (is_character f s) (some (Placed (character_at f s 0))) (cond (is_cut s) (some Cut) none)

-- by the tag alone
unfoldable pub item_at : Form → List ℕ → ℕ → Item
item_at f s i = cond (eqb (get_or s i 0) 6) Cut (Placed (character_at f s i))

-- a DVI file holds a character's height; a cut has none
abbrev pub is_low : Item → Bool
is_low (Placed c) = le_z c.height.0 low_end
is_low Cut = true

-- a whole field starts at i, of a valid item
pub record WholeAt (f : Form) (s : List ℕ) (i : ℕ) : Type 0 where
  pub inside : i + item_size f (item_at f s i) ≤ length s
  pub is_valid : valid_item (greatest_height f) (item_at f s i) ≡ true

-- a character counts 1, and a cut 0
abbrev pub tally : Item → ℕ
tally (Placed c) = 1
tally Cut = 0

unfoldable pub characters_of : List Item → List Character
characters_of [] = []
characters_of (Placed c ∷ is) = c ∷ characters_of is
characters_of (Cut ∷ is) = characters_of is

unfoldable pub cuts_of : List Item → ℕ
cuts_of [] = 0
cuts_of (Placed c ∷ is) = cuts_of is
cuts_of (Cut ∷ is) = cuts_of is + 1
