-- `dvi2_writer::page::put_items` meets its contract. Written are the items gone by, as far as they have room, and the writing is that after them.
-- Assumes nothing.
use mathlib.Core.Path.{◌≡◌, sym, ap, subst, ◌∙◌}
use mathlib.Core.List.{List, ◌∷◌, ◌++◌}
use Rattle.octets.specs.PutIfRoom.{PutIfRoom}
use Rattle.galley_file.specs.declared.form.Form.TheVariants.{New}
use Rattle.galley_file.specs.declared.item.Item.{Item}
use Rattle.galley_file.specs.Galley.{items_of}
use Rattle.galley_file.specs.Items.{items_left}
use Rattle.galley_file.specs.ItemsLaws.{items_turn, items_over}
use Rattle.dvi2.specs.Writer.{first_writing, items_bytes}
use Rattle.dvi2_writer.specs.Writing.{WritingIs}
use Rattle.dvi2_writer.proofs.Passes.{few, all_valid, printed_start, printed_asks, printed_next}
use Rattle.dvi2_writer.proofs.page.put_items.Goals as goal
use Rattle.dvi2_writer.proofs.page.put_items.Goals.{In-Some, In-None}

-- the items gone by, this turn's and those to come are all
turn : (c : In-Some) → items_of New c.args.galley.bytes.now ≡ c.loop-item.yielded ++ (c.in-Some.item ∷ items_left c.next.new.self)
turn c =
    sym (ap items_left c.into_iter-item-iterator.ensures.into_iter_gives ∙ c.items-item-items.ensures)
    ∙ items_turn _ _ c.next.new.self c.loop-item.yielded _ c.loop-item.yielded_by c.next.ensures.steps c.in-Some.item c.in-Some.is

-- at the end those gone by are all
over : (c : In-None) → items_of New c.args.galley.bytes.now ≡ c.loop-item.yielded
over c =
    sym (ap items_left c.into_iter-item-iterator.ensures.into_iter_gives ∙ c.items-item-items.ensures)
    ∙ items_over _ _ c.next.new.self c.loop-item.yielded _ c.loop-item.yielded_by c.next.ensures.steps c.in-None.is

pub loop-item-init : goal.loop-item-init
loop-item-init c = printed_start _ _ c.first-p.ensures

pub put_item-p-requires : goal.put_item-p-requires
put_item-p-requires c =
    let g = c.args.galley in
    let l = c.loop-item in
    printed_asks l.yielded _ _ _ l.invariant c.in-Some.item _ _ (turn (goal.at.put_item-p-requires c).In-Some) (all_valid g) (few g)

pub loop-item-preserved : goal.loop-item-preserved
loop-item-preserved c = let l = c.loop-item in printed_next l.yielded _ _ _ l.invariant c.in-Some.item _ _ c.put_item-p.ensures

pub returns : goal.returns
returns c =
    let l = c.loop-item in
    subst (λ (is : List Item). (PutIfRoom c.args.out.now 60 (items_bytes first_writing is) l.out l.p.at) × WritingIs l.p is)
    (sym (over (goal.at.returns c).In-None)) (l.invariant.puts, l.invariant.writing)
