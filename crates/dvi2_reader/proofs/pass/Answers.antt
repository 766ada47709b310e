-- `dvi2_reader::pass` meets its contract: the items so far are read, tallied and written. The measure is what is left of the file.
-- Assumes nothing.
use mathlib.Core.Path.{ap, subst, ◌∙◌}
use native.Mathlib.Omega.{arith}
use Rattle.std.specs.Prelude.{Ok}
use Rattle.dvi2_turn.specs.Turn.{Turned}
use Rattle.dvi2_reader.proofs.Passes.{going_start, going_ranged, going_room, going_valid, going_least, going_set, going_whole, going_end}
use Rattle.dvi2_reader.proofs.pass.Goals as goal

pub loop-at-init : goal.loop-at-init
loop-at-init c = going_start _ _ _ _ _ c.requires.1 (c.new_page-h.ensures.1 _) c.none-t.ensures

pub put_end-requires : goal.put_end-requires
put_end-requires c =
    let g = c.loop-at.invariant in
    let t = going_ranged _ _ _ _ _ _ _ g in
    (going_room _ _ _ _ _ _ _ g, omega (arith, t.few, t.few_cuts))

pub returns-in-Whole : goal.returns-in-Whole
returns-in-Whole c =
    let g = c.loop-at.invariant in
    going_whole _ _ _ _ _ _ _ g (subst (Turned _ _ _) (c.in_ok-take_turn.was ∙ ap Ok c.in-Whole.is) (c.take_turn.ensures g.items g.tally g.standing)) _ _ c.put_end.ensures

pub put_item-to-requires : goal.put_item-to-requires
put_item-to-requires c = omega (arith, going_room _ _ _ _ _ _ _ c.loop-at.invariant)

pub with_item-t-requires : goal.with_item-t-requires
with_item-t-requires c =
    let g = c.loop-at.invariant in
    let t = going_ranged _ _ _ _ _ _ _ g in
    let y = subst (Turned _ _ _) (c.in_ok-take_turn.was ∙ ap Ok c.in-Set.is) (c.take_turn.ensures g.items g.tally g.standing) in
    ((omega (arith, t.few), omega (arith, t.few_cuts)), (going_least _ _ _ _ _ _ _ g c.in-Set.i c.in-Set.g c.in-Set.next y.1.1 y.1.0, going_valid _ _ _ _ _ _ _ g c.in-Set.i c.in-Set.g c.in-Set.next y.1.1))

pub loop-at-preserved : goal.loop-at-preserved
loop-at-preserved c =
    let g = c.loop-at.invariant in
    let y = subst (Turned _ _ _) (c.in_ok-take_turn.was ∙ ap Ok c.in-Set.is) (c.take_turn.ensures g.items g.tally g.standing) in
    going_set _ _ _ _ _ _ _ g c.in-Set.i c.in-Set.g c.in-Set.next y.1.1 _ (c.with_item-t.ensures g.items g.tally y.1.0) _ _ c.put_item-to.ensures

pub returns : goal.returns
returns c = going_end _ _ _ _ _ _ _ c.loop-at.invariant c.loop-at-test.false
