-- The place is behind the fields of the items gone by, whose heights are low.
use Rattle.std.proofs.Common.{length, ◌≡◌, ℕ, ◌++◌, ◌∷◌, List, refl, sym, ap, ◌∙◌, rules, arith}
use Rattle.octets.specs.Answer.{accepted, refused, height_too_great}
use Rattle.galley_file.specs.declared.form.Form.TheVariants.{New}
use Rattle.galley_file.specs.Items.{items_left}
use Rattle.galley_file.specs.ItemsLaws.{items_turn, items_over}
use Rattle.galley_file.specs.Galley.{fields, items_of}
use Rattle.galley_file.specs.GalleyLaws.{read_as}
use Rattle.galley_file.specs.FieldsLaws.{galley_fields, length_more}
use Rattle.galley_file.specs.Walk.{midway_turn}
use Rattle.galley_file.specs.Outcome.{check_outcome}
use Rattle.galley_file.specs.declared.items.Items.{Items}
use Rattle.octets.specs.declared.refusal.Refusal.{Refusal}
use Rattle.galley_check.specs.declared.galley.CheckedGalley.{CheckedGalley}
use Rattle.galley_check.specs.Galley.{ChecksAs}
use Rattle.std.specs.Prelude.{Result, Ok}
use Rattle.galley_check.specs.Accepted.{accepted_as, as_low}
use Rattle.galley_check.specs.Low.{first_high}
use Rattle.galley_check.specs.LowLaws.{check_refused}
use Rattle.galley_check.proofs.Heights.{low_next, high_next, low_all}
use Rattle.galley_check.proofs.galley.LowGalley.of.Goals as goal
use Rattle.galley_check.proofs.galley.LowGalley.of.Goals.{In_ok-galley, In-Some}

pub returns-in_err-galley : goal.returns-in_err-galley
returns-in_err-galley c =
    let refused_is = rw c.in_err-galley.was at c.of.ensures in
    let low = check_refused _ _ _ refused_is in
    search rules

pub loop-item-init : goal.loop-item-init
unfolding fields first_high
loop-item-init c = (refl, refl)

-- the galley was made of the bytes
checked_is : (g : List ℕ) (r : Result CheckedGalley Refusal) (k : CheckedGalley) → r ≡ Ok k → ChecksAs g r → k.bytes.now ≡ g
checked_is g r k e h = rw e at h

accepted_is : (c : In_ok-galley) → accepted c.in_ok-galley.galley.count ≡ check_outcome New c.args.bytes.now
accepted_is c =
    let g = c.in_ok-galley.galley in
    let k = checked_is _ _ _ c.in_ok-galley.was c.of.ensures in
    accepted_as New g.bytes.now g.count g.accepted ∙ ap (check_outcome New) k

items_are : (g : List ℕ) (k : CheckedGalley) (s t : Items) → k.bytes.now ≡ g → s ≡ t → items_left t ≡ items_of New k.bytes.now → items_left s ≡ items_of New g
items_are g k s t h e q = ap items_left e ∙ q ∙ ap (items_of New) h

-- the items gone by, this turn's and those to come are all
turn : (c : In-Some) → items_of New c.args.bytes.now ≡ c.loop-item.yielded ++ (c.in-Some.item ∷ items_left c.next.new.self)
turn c =
    sym (items_are _ c.in_ok-galley.galley _ _ (checked_is _ _ _ c.in_ok-galley.was c.of.ensures) c.into_iter-item-iterator.ensures.into_iter_gives c.items-item-items.ensures)
    ∙ items_turn _ _ c.next.new.self c.loop-item.yielded _ c.loop-item.yielded_by c.next.ensures.steps c.in-Some.item c.in-Some.is

pub returns-then-not-is_low : goal.returns-then-not-is_low
returns-then-not-is_low c =
    let a = goal.at.returns-then-not-is_low c in
    let l = c.loop-item in
    let h = high_next l.yielded l.invariant.1 c.args.bytes.now _ (accepted_is a.In_ok-galley) c.in-Some.item _ (turn a.In-Some) (sym c.is_low.ensures ∙ c.if-not-is_low.true) in
    let p : c.at.result.place ≡ length (fields New l.yielded) = rw c.at.ensures (omega (arith, l.invariant.0)) in
    rw c.at.ensures (ap (refused height_too_great) (rw c.at.ensures at p) ∙ h)

pub overflow_add-at : goal.overflow_add-at
overflow_add-at c =
    let a = goal.at.overflow_add-at c in
    let m = midway_turn New c.args.bytes.now _ (read_as New _ _ (accepted_is a.In_ok-galley)) c.loop-item.yielded c.in-Some.item _ (turn a.In-Some) in
    omega (arith, m.room, c.loop-item.invariant.0, c.item_size-at.ensures, c.well_formed)

pub loop-item-preserved : goal.loop-item-preserved
loop-item-preserved c =
    let i = c.in-Some.item in
    let l = c.loop-item in
    (omega (arith, c.item_size-at.ensures, length_more New l.yielded i, l.invariant.0), low_next l.yielded l.invariant.1 i (sym c.is_low.ensures ∙ c.if-not-is_low.false))

pub invariant_of-result : goal.invariant_of-result
invariant_of-result c =
    let a = goal.at.invariant_of-result c in
    let l = c.loop-item in
    let all = sym (items_are _ c.in_ok-galley.galley _ _ (checked_is _ _ _ c.in_ok-galley.was c.of.ensures) c.into_iter-item-iterator.ensures.into_iter_gives c.items-item-items.ensures) ∙ items_over _ _ c.next.new.self l.yielded _ l.yielded_by c.next.ensures.steps c.in-None.is in
    let e = accepted_is a.In_ok-galley in
    record {
      low = as_low _ _ (low_all l.yielded l.invariant.1 c.args.bytes.now _ e all);
      fields = galley_fields New c.args.bytes.now _ e (λ i. search rules);
    }
