-- `dvi_writer::plan::Plan::of` meets its contract. The plan and the position are those of the items gone by.
-- Assumes nothing.
use mathlib.Core.Path.{◌≡◌, sym, ap, subst, ◌∙◌}
use mathlib.Core.List.{◌∷◌, ◌++◌}
use native.Mathlib.Omega.{arith}
use Rattle.galley_file.specs.declared.form.Form.TheVariants.{New}
use Rattle.galley_file.specs.Galley.{items_of}
use Rattle.galley_file.specs.Items.{items_left}
use Rattle.galley_file.specs.ItemsLaws.{items_turn, items_over}
use Rattle.dvi_writer.specs.Plan.{PlanIs}
use Rattle.dvi_writer.proofs.Galleys.{few, all_low, low_next}
use Rattle.dvi_writer.proofs.Passes.{measured_start, measured_short, measured_next}
use Rattle.dvi_writer.proofs.plan.Plan.of.Goals as goal
use Rattle.dvi_writer.proofs.plan.Plan.of.Goals.{In-Some, In-None}

-- the items gone by, this turn's and those to come are all
turn : (c : In-Some) → items_of New c.args.galley.bytes.now ≡ c.loop-item.yielded ++ (c.in-Some.item ∷ items_left c.next.new.self)
turn c =
    sym (ap items_left c.into_iter-item-iterator.ensures.into_iter_gives ∙ c.items-item-items.ensures)
    ∙ items_turn _ _ c.next.new.self c.loop-item.yielded _ c.loop-item.yielded_by c.next.ensures.steps c.in-Some.item c.in-Some.is

-- at the end those gone by are all
over : (c : In-None) → items_of New c.args.galley.bytes.now ≡ c.loop-item.yielded
over c =
    sym (ap items_left c.into_iter-item-iterator.ensures.into_iter_gives ∙ c.items-item-items.ensures)
    ∙ items_over _ _ c.next.new.self c.loop-item.yielded _ c.loop-item.yielded_by c.next.ensures.steps c.in-None.is

pub loop-item-init : goal.loop-item-init
loop-item-init c = measured_start _ _ c.none-p.ensures c.start-last.ensures

pub after-next-requires : goal.after-next-requires
after-next-requires c =
    let t = turn (goal.at.after-next-requires c).In-Some in
    record { i_value = low_next _ c.loop-item.yielded c.in-Some.item _ (all_low c.args.galley) t; targets_value = c.targets-targets.ensures }

pub with_item-p-requires : goal.with_item-p-requires
with_item-p-requires c =
    let g = c.args.galley in
    let l = c.loop-item in
    let t = turn (goal.at.with_item-p-requires c).In-Some in
    ((omega (arith, measured_short l.yielded _ _ l.invariant c.in-Some.item _ _ t (few g)), low_next _ l.yielded c.in-Some.item _ (all_low g) t), (l.invariant.position.on_page, c.after-next.ensures))

pub loop-item-preserved : goal.loop-item-preserved
loop-item-preserved c = let l = c.loop-item in measured_next l.yielded _ _ l.invariant c.in-Some.item _ _ c.with_item-p.ensures c.after-next.ensures

pub returns : goal.returns
returns c = subst (PlanIs c.loop-item.p) (sym (over (goal.at.returns c).In-None)) c.loop-item.invariant.plan
