-- The items that an iterator over fields has not given yet.
use Rattle.std.specs.Prelude.{List}
use Rattle.galley_file.specs.declared.item.Item.{Item}
use Rattle.galley_file.specs.declared.items.Items.{Items}
use Rattle.galley_file.specs.Fields.{field_items}

abbrev pub items_left : Items → List Item
items_left it = field_items it.form it.fields.now
