-- `dvi_writer::page::put_items` meets its contract. Written are the items gone by, and the writing is that after them.
-- Assumes nothing.
use mathlib.Core.Path.{◌≡◌, sym, ap, subst, ◌∙◌}
use mathlib.Core.List.{List, ◌∷◌, ◌++◌}
use Rattle.octets.specs.Write.{Wrote}
use Rattle.galley_file.specs.declared.form.Form.TheVariants.{New}
use Rattle.galley_file.specs.declared.item.Item.{Item}
use Rattle.galley_file.specs.Galley.{items_of}
use Rattle.galley_file.specs.Items.{items_left}
use Rattle.galley_file.specs.ItemsLaws.{items_turn, items_over}
use Rattle.dvi.specs.Writer.{first_writing, items_bytes, writing_after_all}
use Rattle.dvi_writer.specs.Writing.{WritingIs}
use Rattle.dvi_writer.proofs.Galleys.{few, all_low}
use Rattle.dvi_writer.proofs.Passes.{printed_start, printed_asks, printed_next}
use Rattle.dvi_writer.proofs.page.put_items.Goals as goal
use Rattle.dvi_writer.proofs.page.put_items.Goals.{In-Some, In-None}

-- the items gone by, this turn's and those to come are all
turn : (c : In-Some) → items_of New c.args.galley.bytes.now ≡ c.loop-item.yielded ++ (c.in-Some.item ∷ items_left c.next.new.self)
turn c =
    sym (ap items_left c.into_iter-item-iterator.ensures.into_iter_gives ∙ c.items-item-items.ensures)
    ∙ items_turn _ _ c.next.new.self c.loop-item.yielded _ c.loop-item.yielded_by c.next.ensures.steps c.in-Some.item c.in-Some.is

-- at the end those gone by are all
over : (c : In-None) → items_of New c.args.galley.bytes.now ≡ c.loop-item.yielded
over c =
    sym (ap items_left c.into_iter-item-iterator.ensures.into_iter_gives ∙ c.items-item-items.ensures)
    ∙ items_over _ _ c.next.new.self c.loop-item.yielded _ c.loop-item.yielded_by c.next.ensures.steps c.in-None.is

pub loop-item-init : goal.loop-item-init
loop-item-init c = printed_start _ _ c.first-p.ensures

pub put_item-p-requires : goal.put_item-p-requires
put_item-p-requires c =
    let g = c.args.galley in
    let l = c.loop-item in
    let t = turn (goal.at.put_item-p-requires c).In-Some in
    record { i_in_bounds = printed_asks l.yielded _ _ _ l.invariant c.in-Some.item _ _ t (all_low g) (few g) c.requires; targets_value = c.targets-targets.ensures }

pub loop-item-preserved : goal.loop-item-preserved
loop-item-preserved c =
    let l = c.loop-item in
    let w = c.put_item-p.ensures in
    printed_next l.yielded _ _ _ l.invariant c.in-Some.item _ _ w.0 w.1

pub returns : goal.returns
returns c =
    let l = c.loop-item in
    subst (λ (is : List Item). (Wrote c.args.out.now 9 (items_bytes first_writing is) l.out l.p.at) × WritingIs l.p (writing_after_all first_writing is))
    (sym (over (goal.at.returns c).In-None)) (l.invariant.wrote, l.invariant.writing)
