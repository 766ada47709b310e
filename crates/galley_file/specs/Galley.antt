-- A whole galley, and what a run of bytes holds when it is read as one (document 01, "Galley"; document 02,
-- "Software cuts"), in either form.
--     galley         the bytes of a list of items
--     AllValid       each item of a list is valid, its height at most so many quanta
--     Reading        the items that a run of bytes holds, or the place of its first fault
--     reading        what a run holds that starts at a place, follows so many characters, and may have so many items
--     read_galley     what a whole galley holds, and items_of the items, none where it is malformed
--     leading        the items that a run of bytes starts with
use Rattle.std.specs.Prelude.{ℕ, zero, suc, ◌+◌, true, cond, List, [], ◌∷◌, ◌++◌, ◌≡◌, eqb, ℤ, length, drop}
use Rattle.std.proofs.Math.Option.{none, some}
use Rattle.octets.specs.Field.{end_field, starts_end}
use Rattle.galley_file.specs.declared.item.Item.{Item}
use Rattle.galley_file.specs.declared.form.Form.{Form}
use Rattle.galley_file.specs.Item.{valid_item, item_field, item_size, next_item, tally, characters_of}

-- the most characters and cuts together
abbrev pub max_items : ℕ
max_items = 1048576

pub data AllValid (top : ℤ) : List Item → Type 0 where
  nil : AllValid top []
  more : {i : Item} {is : List Item} → valid_item top i ≡ true → AllValid top is → AllValid top (i ∷ is)

unfoldable pub fields : Form → List Item → List ℕ
fields f [] = []
fields f (i ∷ is) = item_field f i ++ fields f is

-- the items' fields, and End with the number of the characters only
unfoldable pub galley : Form → List Item → List ℕ
galley f is = fields f is ++ end_field (length (characters_of is))

pub data Reading : Type 0 where
  whole : List Item → Reading
  malformed : ℕ → Reading

abbrev pub item_first : Item → Reading → Reading
item_first i (whole is) = whole (i ∷ is)
item_first i (malformed p) = malformed p

-- what s holds where no item comes next: End with nothing after it, or a fault
unfoldable pub read_end : List ℕ → ℕ → ℕ → Reading
read_end s at n = cond (starts_end n s) (cond (eqb (length s) 7) (whole []) (malformed (at + 7))) (malformed at)

-- What s holds, where it starts at the place `at` of a galley and follows n characters: after a field comes again a run of
-- fields, by the same rules. The first number is that of the characters and cuts that may come: the first field past it is bad.
unfoldable pub reading : Form → ℕ → List ℕ → ℕ → ℕ → Reading
reading f zero s at n = read_end s at n
reading f (suc k) s at n =
    elim (next_item f s) [
      | none ↦ read_end s at n
      | some i ↦ item_first i (reading f k (drop (item_size f i) s) (at + item_size f i) (n + tally i))
    ]

unfoldable pub read_galley : Form → List ℕ → Reading
read_galley f g = reading f max_items g 0 0

abbrev pub items_in : Reading → List Item
items_in (whole is) = is
items_in (malformed place) = []

unfoldable pub items_of : Form → List ℕ → List Item
items_of f g = items_in (read_galley f g)

-- the items that s starts with, at most m
unfoldable pub leading : Form → ℕ → List ℕ → List Item
leading f zero s = []
leading f (suc m) s =
    elim (next_item f s) [
      | none ↦ []
      | some i ↦ i ∷ leading f m (drop (item_size f i) s)
    ]
