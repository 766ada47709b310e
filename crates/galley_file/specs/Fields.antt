-- A run of whole fields, without an End.
--     field_items      the items whose fields the bytes are
--     WholeFields      the bytes are the fields of valid items, and nothing else
--     GalleyFields     the bytes of a galley before its End are the fields of its items
use Rattle.std.specs.Prelude.{◌≡◌, List, ℕ, ◌-◌, length, take}
use Rattle.galley_file.specs.declared.form.Form.{Form}
use Rattle.galley_file.specs.declared.item.Item.{Item}
use Rattle.galley_file.specs.Galley.{fields, leading, items_of}

unfoldable pub field_items : Form → List ℕ → List Item
field_items form s = leading form (length s) s

abbrev pub WholeFields : Form → List ℕ → Type 0
WholeFields form s = s ≡ fields form (field_items form s)

abbrev pub GalleyFields : Form → List ℕ → Type 0
GalleyFields form g = take (length g - 7) g ≡ fields form (items_of form g)
