-- `extents::with_fields` meets its contract: the extents are those of the items gone by.
use Rattle.std.proofs.Common.{List, refl, sym, ap, subst, ◌∙◌}
use Rattle.measure.specs.Place.{height_end}
use Rattle.galley_file.specs.declared.form.Form.TheVariants.{New}
use Rattle.galley_file.specs.declared.item.Item.{Item}
use Rattle.galley_file.specs.Item.{characters_of}
use Rattle.galley_file.specs.Galley.{AllValid, fields}
use Rattle.galley_file.specs.Items.{items_left}
use Rattle.galley_file.specs.ItemsLaws.{items_turn, items_over}
use Rattle.galley_file.specs.FieldsLaws.{valid_turn}
use Rattle.extents.specs.declared.Extents.{Extents}
use Rattle.extents.specs.Extents.{with_characters, with_one_item}
use Rattle.extents.proofs.ExtentsLaws.{with_item}
use Rattle.extents.proofs.FieldsLaws.{same_items}
use Rattle.extents.proofs.with_fields.Goals as goal

pub invariant_of-item-items : goal.invariant_of-item-items
invariant_of-item-items c = record { whole = c.requires.fields_are ∙ ap (fields New) (sym (same_items c.args.s.now)) }

pub loop-item-init : goal.loop-item-init
unfolding characters_of with_characters
loop-item-init c = refl

pub with_item-e-requires : goal.with_item-e-requires
with_item-e-requires c =
    let l = c.loop-item in
    let turn = sym (ap items_left c.into_iter-item-iterator.ensures.into_iter_gives) ∙ items_turn _ _ c.next.new.self l.yielded _ l.yielded_by c.next.ensures.steps c.in-Some.item c.in-Some.is in
    valid_turn height_end l.yielded _ c.in-Some.item (subst (AllValid height_end) (sym (same_items c.args.s.now) ∙ turn) c.requires.all_valid)

pub loop-item-preserved : goal.loop-item-preserved
loop-item-preserved c =
    let l = c.loop-item in
    c.with_item-e.ensures ∙ ap (λ (e : Extents). with_one_item e c.in-Some.item) l.invariant ∙ sym (with_item c.args.first l.yielded c.in-Some.item)

pub returns : goal.returns
returns c =
    let l = c.loop-item in
    let all = sym (ap items_left c.into_iter-item-iterator.ensures.into_iter_gives) ∙ items_over _ _ c.next.new.self l.yielded _ l.yielded_by c.next.ensures.steps c.in-None.is in
    l.invariant ∙ sym (ap (λ (is : List Item). with_characters c.args.first (characters_of is)) (sym (same_items c.args.s.now) ∙ all))
