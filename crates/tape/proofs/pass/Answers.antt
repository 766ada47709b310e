-- `tape::pass` meets its contract. The invariant is `Going`; its laws are in `Passes`, the quick ways keep it by their contract.
-- Assumes nothing.
use Rattle.std.specs.Prelude.{Ok, Err}
use Rattle.octets.specs.declared.refusal.Refusal.{Refusal}
use Rattle.std.proofs.lemmas.Option.{slice_get-get_or, get_or_from_slice_get}
use mathlib.Core.Path.{◌≡◌, refl, sym, ap, subst, ◌∙◌}
use borrow.Author.Tests.{ltb-true, ltb-false}
use mathlib.Core.Bool.{true}
use mathlib.Core.List.{List}
use Prim.Native.Nat.{ℕ, ◌+◌, ◌-◌, ◌*◌, ◌≤◌, ◌<◌}
use native.Mathlib.Omega.{arith}
use lib.ListN.{length, get_or}
use mir.Syntax.{w64}
use mir.Val.{Fits}
use Rattle.galley_file.specs.declared.form.Form.TheVariants.{New}
use Rattle.galley_file.specs.declared.item.Item.{Item}
use Rattle.galley_file.specs.Item.{item_size, tally}
use Rattle.typesetter.specs.declared.machine.State.{State}
use Rattle.typesetter.specs.declared.machine.Effect.TheVariants.{Moved, Flashed, PageEnded}
use Rattle.typesetter.specs.Machine.{Step, byte_effect}
use Rattle.tape.specs.RunLaws.{Sets, flashed, page_ended}
use Rattle.tape.specs.Tape.{max_tape, run}
use Rattle.tape_stretch.specs.Further.{put_at}
use Rattle.tape_stretch.specs.FurtherLaws.{further_onward}
use Rattle.tape.specs.Pass.{Going, Passed}
use Rattle.tape.proofs.Passes.{going_start, going_bound, going_moved, going_room, going_set, going_refused, going_done, going_further}
use Rattle.tape.proofs.pass.Goals as goal
use Rattle.tape.proofs.pass.Goals.{After-quick_run-r, In-Some, In-Ok-Flashed, In-Ok-PageEnded}

-- the laws of a turn of the loop, after the quick ways
module _ (c : After-quick_run-r) where
  abbrev now : State
  now = c.quick_run-r.result.state

  abbrev count : ℕ
  count = c.quick_run-r.result.count

  abbrev cuts : ℕ
  cuts = c.loop-b.cuts

  abbrev i : ℕ
  i = c.quick_run-r.result.next

  abbrev out : List ℕ
  out = c.quick_run-r.new.out

  abbrev code : ℕ
  code = get_or c.args.tape.now i 0

  going : Going c.args.first c.args.at c.args.tape.now c.args.out.now c.args.writing out now count cuts i
  going = let a = c.args in going_further a.first a.at a.tape.now a.out.now a.writing c.quick_run-r.ensures c.loop-b.invariant

  bound : 3 * count + cuts ≤ 3 * i
  bound = let a = c.args in going_bound a.first a.at a.tape.now a.out.now a.writing out now count cuts i going

  module _ (h : i < length c.args.tape.now) where
    next-count : Fits w64 (count + 1)
    next-count = omega (arith, h, bound, c.requires.sound.1)

    next-cuts : Fits w64 (cuts + 3)
    next-cuts = omega (arith, h, bound, c.requires.sound.1)

    few : (count ≤ max_tape) × (cuts ≤ 3 * max_tape)
    few = (omega (arith, h, bound, c.requires.sound.1), omega (arith, h, bound, c.requires.sound.1))

    less : length c.args.tape.now - (i + 1) < length c.args.tape.now - c.loop-b.i
    less = omega (arith, h, further_onward c.quick_run-r.ensures)

    moved : (t : State) → byte_effect now code ≡ Ok (Moved t) → Going c.args.first c.args.at c.args.tape.now c.args.out.now c.args.writing out t count cuts (i + 1)
    moved = let a = c.args in going_moved a.first a.at a.tape.now a.out.now a.writing out now count cuts i going h

    module _ {e : Step} {x : Item} {t : State} (q : byte_effect now code ≡ e) (m : Sets now e x t) where
      room : c.args.writing ≡ true → 11 * count + cuts + item_size New x ≤ length out
      room = let a = c.args in going_room a.first a.at a.tape.now a.out.now a.writing out now count cuts i going h q m c.requires.tape_in_bounds

      set : (next : List ℕ) → length next ≡ length out → next ≡ put_at c.args.writing count cuts x out → (n k : ℕ) → n ≡ count + tally x → k + 3 * tally x ≡ cuts + 3
          → Going c.args.first c.args.at c.args.tape.now c.args.out.now c.args.writing next t n k (i + 1)
      set = let a = c.args in going_set a.first a.at a.tape.now a.out.now a.writing out now count cuts i going h q m

-- the code after the quick ways
read : (c : In-Some) → let i = c.quick_run-r.result.next in (i < length c.args.tape.now) × (c.in-Some.field-0.now ≡ get_or c.args.tape.now i 0)
read c =
    let tape = c.args.tape.now in
    let i = c.quick_run-r.result.next in
    let h = ltb-true i (length tape) (sym c.in-Some.ensures.lookup.0) in
    (h, c.in-Some.ensures.lookup.1 ∙ sym (get_or_from_slice_get tape i _ 0 (slice_get-get_or tape i _ h)))

-- what it does
does : (c : In-Some) {x : Step} → byte_effect c.quick_run-r.result.state c.in-Some.field-0.now ≡ x → byte_effect c.quick_run-r.result.state (get_or c.args.tape.now c.quick_run-r.result.next 0) ≡ x
does c e = ap (byte_effect c.quick_run-r.result.state) (sym (read c).1) ∙ e

-- the character, or the cut, that it sets
flashes : (c : In-Ok-Flashed) → byte_effect c.quick_run-r.result.state c.in-Some.field-0.now ≡ Ok (Flashed c.in-Ok-Flashed.c)
flashes c = sym c.step.ensures ∙ c.in-Ok-Flashed.is ∙ ap Ok c.in-Ok-Flashed.field-0-is

parts : (c : In-Ok-PageEnded) → byte_effect c.quick_run-r.result.state c.in-Some.field-0.now ≡ Ok (PageEnded c.in-Ok-PageEnded.next)
parts c = sym c.step.ensures ∙ c.in-Ok-PageEnded.is ∙ ap Ok c.in-Ok-PageEnded.field-0-is

pub loop-b-init : goal.loop-b-init
loop-b-init c =
    let a = c.args in
    going_start a.first a.at a.tape.now a.out.now a.writing c.requires.sound.0

pub quick_run-r-requires : goal.quick_run-r-requires
quick_run-r-requires c =
    let l = c.loop-b in
    let a = c.args in
    (l.invariant.sound, omega (arith, going_bound a.first a.at a.tape.now a.out.now a.writing l.out l.s l.count l.cuts l.i l.invariant))

pub returns-in_default : goal.returns-in_default
returns-in_default c =
    let a = c.args in
    let p = (goal.at.returns-in_default c).After-quick_run-r in
    going_done a.first a.at a.tape.now a.out.now a.writing (out p) (now p) (count p) (cuts p) (i p) (going p) (ltb-false _ _ (sym c.in_default.ensures.lookup.0)) c.requires.sound.1

pub step-requires : goal.step-requires
step-requires c = (going (goal.at.step-requires c).After-quick_run-r).sound

pub loop-b-smaller-in-Ok-Moved : goal.loop-b-smaller-in-Ok-Moved
loop-b-smaller-in-Ok-Moved c = let at = goal.at.loop-b-smaller-in-Ok-Moved c in less at.After-quick_run-r (read at.In-Some).0

pub loop-b-preserved-in-Ok-Moved : goal.loop-b-preserved-in-Ok-Moved
loop-b-preserved-in-Ok-Moved c =
    let at = goal.at.loop-b-preserved-in-Ok-Moved c in
    moved at.After-quick_run-r (read at.In-Some).0 c.in-Ok-Moved.next (does at.In-Some (sym c.step.ensures ∙ c.in-Ok-Moved.is ∙ ap Ok c.in-Ok-Moved.field-0-is))

pub put_after-requires : goal.put_after-requires
put_after-requires c =
    let at = goal.at.put_after-requires c in
    let h = (read at.In-Some).0 in
    record { count_le_max_tape = few at.After-quick_run-r h; i_in_bounds = room at.After-quick_run-r h (does at.In-Some (flashes at.In-Ok-Flashed)) flashed }

pub overflow_add-count : goal.overflow_add-count
overflow_add-count c = let at = goal.at.overflow_add-count c in next-count at.After-quick_run-r (read at.In-Some).0

pub loop-b-smaller-in-Ok-Flashed : goal.loop-b-smaller-in-Ok-Flashed
loop-b-smaller-in-Ok-Flashed c = let at = goal.at.loop-b-smaller-in-Ok-Flashed c in less at.After-quick_run-r (read at.In-Some).0

pub loop-b-preserved-in-Ok-Flashed : goal.loop-b-preserved-in-Ok-Flashed
loop-b-preserved-in-Ok-Flashed c =
    let at = goal.at.loop-b-preserved-in-Ok-Flashed c in
    let p = c.put_after in
    set at.After-quick_run-r (read at.In-Some).0 (does at.In-Some (flashes at.In-Ok-Flashed)) flashed p.new.out p.auto.out p.ensures _ _ refl refl

pub put_after-requires-in-Ok-PageEnded : goal.put_after-requires-in-Ok-PageEnded
put_after-requires-in-Ok-PageEnded c =
    let at = goal.at.put_after-requires-in-Ok-PageEnded c in
    let h = (read at.In-Some).0 in
    record { count_le_max_tape = few at.After-quick_run-r h; i_in_bounds = room at.After-quick_run-r h (does at.In-Some (parts at.In-Ok-PageEnded)) page_ended }

pub overflow_add-cuts : goal.overflow_add-cuts
overflow_add-cuts c = let at = goal.at.overflow_add-cuts c in next-cuts at.After-quick_run-r (read at.In-Some).0

pub loop-b-smaller : goal.loop-b-smaller
loop-b-smaller c = let at = goal.at.loop-b-smaller c in less at.After-quick_run-r (read at.In-Some).0

pub loop-b-preserved : goal.loop-b-preserved
loop-b-preserved c =
    let at = goal.at.loop-b-preserved c in
    let p = c.put_after-in-Ok-PageEnded in
    set at.After-quick_run-r (read at.In-Some).0 (does at.In-Some (parts at.In-Ok-PageEnded)) page_ended p.new.out p.auto.out p.ensures _ _ (omega arith) (omega arith)

pub returns-in-Err : goal.returns-in-Err
returns-in-Err c =
    let at = goal.at.returns-in-Err c in
    let a = c.args in
    let p = at.After-quick_run-r in
    subst (λ (r : Refusal). Passed (run a.first a.at a.tape.now) a.writing a.out.now (record { count = count p; cuts = cuts p; ending = Err r }) (out p)) (sym c.at.ensures)
    (going_refused a.first a.at a.tape.now a.out.now a.writing (out p) (now p) (count p) (cuts p) (i p) (going p) (read at.In-Some).0 c.in-Err.reason c.requires.sound.1
    (does at.In-Some (sym c.step.ensures ∙ c.in-Err.is)))
