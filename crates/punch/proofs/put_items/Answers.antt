-- `punch::put_items` meets its contract. The codes of the items gone by are put, and the machine is in the state after them.
use Rattle.std.proofs.Common.{◌≡◌, ◌++◌, ◌∷◌, ◌≤◌, length, true, sym, ap, subst, ◌∙◌}
use Rattle.measure.specs.Place.{height_end}
use Rattle.galley_file.specs.declared.form.Form.TheVariants.{New}
use Rattle.galley_file.specs.Item.{valid_item}
use Rattle.galley_file.specs.Items.{items_left}
use Rattle.galley_file.specs.ItemsLaws.{items_turn, items_over}
use Rattle.galley_file.specs.FieldsLaws.{galley_valid, valid_turn}
use Rattle.galley_file.specs.Galley.{max_items, AllValid, read_galley, items_of}
use Rattle.galley_file.specs.GalleyLaws.{read_as}
use Rattle.galley_file.specs.ReadingLaws.{reading_few}
use Rattle.galley_check.specs.Accepted.{accepted_as}
use Rattle.galley_check.specs.declared.galley.CheckedGalley.{CheckedGalley}
use Rattle.punch.proofs.Passes.{punching_start, punching_space, punching_next, punching_end}
use Rattle.punch.proofs.put_items.Goals as goal
use Rattle.punch.proofs.put_items.Goals.{In-Some}

-- a galley has few items
few : (g : CheckedGalley) → length (items_of New g.bytes.now) ≤ max_items
unfolding read_galley
few g = reading_few New _ max_items g.bytes.now 0 0 (read_as New g.bytes.now g.count (accepted_as New _ _ g.accepted))

pub loop-i-init : goal.loop-i-init
loop-i-init c = punching_start _ _ _ c.at_begin-s.ensures

-- the items gone by, this turn's and those to come are all
turn : (c : In-Some) → items_of New c.args.galley.bytes.now ≡ c.loop-i.yielded ++ (c.in-Some.i ∷ items_left c.next.new.self)
turn c =
    sym (ap items_left c.into_iter-i-iterator.ensures.into_iter_gives ∙ c.items-i-items.ensures)
    ∙ items_turn _ _ c.next.new.self c.loop-i.yielded _ c.loop-i.yielded_by c.next.ensures.steps c.in-Some.i c.in-Some.is

valid : (c : In-Some) → valid_item height_end c.in-Some.i ≡ true
valid c =
    let g = c.args.galley in
    valid_turn height_end c.loop-i.yielded _ c.in-Some.i (subst (AllValid height_end) (turn c) (galley_valid New g.bytes.now g.count (accepted_as New _ _ g.accepted)))

pub state_after-t-requires : goal.state_after-t-requires
state_after-t-requires c = valid (goal.at.state_after-t-requires c).In-Some

pub put_item-next-requires : goal.put_item-next-requires
put_item-next-requires c =
    let p = (goal.at.put_item-next-requires c).In-Some in
    let v = c.loop-i.invariant in
    ((v.sound, c.state_after-t.ensures), (valid p, punching_space _ _ _ _ _ c.loop-i.yielded v c.in-Some.i (valid p) _ _ (turn p) (few c.args.galley) c.requires))

pub loop-i-preserved : goal.loop-i-preserved
loop-i-preserved c =
    let p = (goal.at.loop-i-preserved c).In-Some in
    punching_next _ _ _ _ _ c.loop-i.yielded c.loop-i.invariant c.in-Some.i (valid p) _ c.state_after-t.ensures _ _ c.put_item-next.ensures

pub returns : goal.returns
returns c =
    let l = c.loop-i in
    let all = sym (ap items_left c.into_iter-i-iterator.ensures.into_iter_gives ∙ c.items-i-items.ensures) ∙ items_over _ _ c.next.new.self l.yielded _ l.yielded_by c.next.ensures.steps c.in-None.is in
    punching_end _ _ _ _ _ l.yielded l.invariant _ all (few c.args.galley)
