-- `dvi2_reader::put_item` meets its contract: written, or counted.
-- Assumes nothing.
use mathlib.Core.Path.{sym, ◌∙◌}
use native.Mathlib.Omega.{arith}
use Rattle.octets.specs.PutIfRoomLaws.{put_if_room_written, put_if_room_counted}
use Rattle.galley_file.specs.declared.form.Form.TheVariants.{New}
use Rattle.galley_file.specs.ItemLaws.{length_item_field, size_most}
use Rattle.dvi2_reader.proofs.put_item.Goals as goal

pub overflow_add-at : goal.overflow_add-at
overflow_add-at c = omega (arith, c.requires, c.item_size-size.ensures, size_most New c.args.i)

pub overflow_add-result : goal.overflow_add-result
overflow_add-result c = omega (arith, c.requires, c.item_size-size.ensures, size_most New c.args.i)

pub returns-then-out-at : goal.returns-then-out-at
returns-then-out-at c = put_if_room_counted _ _ _ _ (length_item_field New c.args.i ∙ sym c.item_size-size.ensures) c.if-out-at.true

pub put_item-requires : goal.put_item-requires
put_item-requires c = omega (arith, c.if-out-at.false, c.item_size-size.ensures)

pub returns-else-out-at : goal.returns-else-out-at
returns-else-out-at c = put_if_room_written c.put_item.ensures
