-- Of the items gone by, as many are characters as were counted off.
use Rattle.std.proofs.Common.{◌++◌, ◌∷◌, List, length, sym, ap, ◌∙◌, arith}
use Rattle.galley_file.specs.declared.item.Item.{Item}
use Rattle.galley_file.specs.declared.item.Item.TheVariants.{Placed}
use Rattle.galley_file.specs.Item.{characters_of}
use Rattle.galley_file.specs.Items.{items_left}
use Rattle.galley_file.specs.ItemsLaws.{items_turn, items_over}
use Rattle.galley_check.proofs.Back.{pick_turn, pick_none, counted_more, tally_cut}
use Rattle.galley_check.proofs.galley.CheckedGalley.character.Goals as goal

pub loop-item-init : goal.loop-item-init
unfolding characters_of
loop-item-init c = omega arith

pub returns-then-left-eq0 : goal.returns-then-left-eq0
returns-then-left-eq0 c =
    let l = c.loop-item in
    let start = sym (ap items_left c.into_iter-item-iterator.ensures.into_iter_gives ∙ c.items-item-items.ensures) in
    let turn = start ∙ items_turn _ _ c.next.new.self l.yielded _ l.yielded_by c.next.ensures.steps c.in-Some.item c.in-Some.is in
    pick_turn _ l.yielded _ c.in-Placed.c c.args.n (turn ∙ ap (λ (i : Item). l.yielded ++ (i ∷ items_left c.next.new.self)) c.in-Placed.is) (omega (arith, l.invariant, c.if-left-eq0.true))

pub loop-item-preserved-in-Placed : goal.loop-item-preserved-in-Placed
loop-item-preserved-in-Placed c =
    let l = c.loop-item in
    rw c.in-Placed.is (omega (arith, counted_more l.yielded (Placed c.in-Placed.c), l.invariant, c.if-left-eq0.false))

pub loop-item-preserved : goal.loop-item-preserved
loop-item-preserved c =
    let l = c.loop-item in
    omega (arith, counted_more l.yielded c.in-Some.item, tally_cut c.in-Some.item c.in_default.not-Placed, l.invariant)

pub returns : goal.returns
returns c =
    let l = c.loop-item in
    let start = sym (ap items_left c.into_iter-item-iterator.ensures.into_iter_gives ∙ c.items-item-items.ensures) in
    let all = start ∙ items_over _ _ c.next.new.self l.yielded _ l.yielded_by c.next.ensures.steps c.in-None.is in
    rw c.at.ensures (pick_none _ c.args.n (omega (arith, ap (λ (is : List Item). length (characters_of is)) all, l.invariant)))
