-- `conversion::put_items` meets its contract: the items gone by are written.
use Rattle.std.proofs.Common.{sym, ap, ◌∙◌, arith}
use Rattle.octets.specs.Write.{wrote_none, then, named, length_wrote}
use Rattle.galley_file.specs.Galley.{fields}
use Rattle.galley_file.specs.Items.{items_left}
use Rattle.galley_file.specs.ItemsLaws.{items_turn, items_over}
use Rattle.galley_file.specs.FieldsLaws.{fields_more, fields_room}
use Rattle.conversion.proofs.put_items.Goals as goal

pub loop-item-init : goal.loop-item-init
unfolding fields
loop-item-init c = wrote_none _ 0

pub put_item-next-requires : goal.put_item-next-requires
put_item-next-requires c =
    let l = c.loop-item in
    let turn = sym (ap items_left c.into_iter-item-iterator.ensures.into_iter_gives) ∙ items_turn _ _ c.next.new.self l.yielded _ l.yielded_by c.next.ensures.steps c.in-Some.item c.in-Some.is in
    let room = fields_room c.args.to l.yielded c.in-Some.item _ _ turn in
    omega (arith, room, c.requires, l.invariant.next_is, length_wrote l.invariant)

pub loop-item-preserved : goal.loop-item-preserved
loop-item-preserved c = let l = c.loop-item in named (sym (fields_more c.args.to l.yielded c.in-Some.item)) (then l.invariant c.put_item-next.ensures)

pub returns : goal.returns
returns c =
    let l = c.loop-item in
    let all = sym (ap items_left c.into_iter-item-iterator.ensures.into_iter_gives) ∙ items_over _ _ c.next.new.self l.yielded _ l.yielded_by c.next.ensures.steps c.in-None.is in
    named (ap (fields c.args.to) (sym all)) l.invariant
