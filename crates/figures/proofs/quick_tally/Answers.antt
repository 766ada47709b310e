-- `figures::quick_tally` meets its contract: what a count keeps is kept by each stretch, each turn and each lead.
-- Assumes nothing.
use Rattle.std.proofs.lemmas.Option.{slice_get-get_or, get_or_from_slice_get}
use Rattle.std.proofs.Common.{◌≡◌, ℕ, ◌<◌, length, get_or, sym, ap, ◌∙◌, subst, arith, ltb-true}
use Rattle.typesetter.specs.declared.machine.State.{State}
use Rattle.typesetter.specs.Machine.{Step, with_carriage, byte_effect}
use Rattle.tape_stretch.specs.Stretch.{DerivedFrom}
use Rattle.tape_quick.specs.Turn.{Leads}
use Rattle.tape_quick.proofs.Turns.{turn_low, turn_taken}
use Rattle.tape_stretch.proofs.Stretches.{still_derived}
use Rattle.figures.specs.Figures.{taken, forward_of, backward_of, sum64}
use Rattle.figures.specs.Counting.{CountsOn, here, stretched, turned, leads}
use Rattle.figures.proofs.Onwards.{strides_onward, onward_sound, onward_length}
use Rattle.figures.proofs.quick_tally.Goals as goal
use Rattle.figures.proofs.quick_tally.Goals.{After-add_at, In-Some, then-takes_turn, else-takes_turn+in-Some-height_after}

-- after a stretch
module _ (c : After-add_at) where
  abbrev now : State
  now = with_carriage c.loop-b.s c.count_stretch-r.result.carriage

  onward : let a = c.args in let l = c.loop-b in CountsOn a.tape.now a.fonts.now a.first a.before.forward a.before.backward a.from c.add_at.new.fonts now l.lead.forward l.lead.backward c.count_stretch-r.result.next
  onward =
      let l = c.loop-b in
      stretched l.invariant.0 c.count_stretch-r.ensures (omega (arith, l.invariant.1.numbered, onward_length l.invariant.0, c.requires.1)) c.add_at.ensures

  derived : DerivedFrom now c.loop-b.d
  derived = let l = c.loop-b in still_derived l.s c.count_stretch-r.result.carriage l.s.height l.invariant.1

  -- what a code does
  does : {b j : ℕ} {x : Step} → b ≡ j → byte_effect now b ≡ x → byte_effect now j ≡ x
  does q e = ap (byte_effect now) (sym q) ∙ e

-- the code after it
read : (c : In-Some) → let i = c.count_stretch-r.result.next in (i < length c.args.tape.now) × (c.in-Some.field-0.now ≡ get_or c.args.tape.now i 0)
read c =
    let tape = c.args.tape.now in
    let i = c.count_stretch-r.result.next in
    let h = ltb-true i (length tape) (sym c.in-Some.ensures.lookup.0) in
    (h, c.in-Some.ensures.lookup.1 ∙ sym (get_or_from_slice_get tape i _ 0 (slice_get-get_or tape i _ h)))

pub loop-b-init : goal.loop-b-init
loop-b-init c = (here, c.of-d.ensures)

pub count_stretch-r-requires : goal.count_stretch-r-requires
count_stretch-r-requires c = let l = c.loop-b in ((onward_sound l.invariant.0 c.requires.0, l.invariant.1), omega arith)

pub add_at-requires : goal.add_at-requires
add_at-requires c = let l = c.loop-b in omega (arith, l.invariant.1.numbered, onward_length l.invariant.0, c.requires.1)

pub loop-b-smaller : goal.loop-b-smaller
loop-b-smaller c = omega (arith, (read (goal.at.loop-b-smaller c).In-Some).0, strides_onward c.count_stretch-r.ensures)

pub loop-b-preserved : goal.loop-b-preserved
loop-b-preserved c =
    let at = goal.at.loop-b-preserved c in
    let p = at.After-add_at in
    let r = read at.In-Some in
    let code = c.in-Some.field-0.now in
    elim c.if-takes_turn.branch [
      | then-takes_turn w ↦
          let turn = c.takes_turn.ensures w.if-takes_turn.true in
          rw (w.s-is, w.d-is, w.lead-is) (
            turned (onward p) r.0 (does p r.1 (turn_taken (now p) turn.0 code turn.1 w.modes_after-s.result w.modes_after-s.ensures w.size_after.result w.size_after.ensures))
                (λ h. absurd (omega (arith, turn_low (now p).machine code turn.1, r.1))),
            w.of-d-then-takes_turn.ensures,
          )
      | else-takes_turn+in-Some-height_after w ↦
          rw (w.s-is, w.d-is, w.lead-is) (
            leads (onward p) r.0 (does p r.1 (subst (Leads (now p) code) w.in-Some-height_after.is w.height_after.ensures))
                (w.after-lead.ensures.forward ∙ ap (λ (b : ℕ). sum64 c.loop-b.lead.forward (forward_of (taken (now p) b))) r.1)
                (w.after-lead.ensures.backward ∙ ap (λ (b : ℕ). sum64 c.loop-b.lead.backward (backward_of (taken (now p) b))) r.1),
            still_derived (now p) (now p).carriage w.in-Some-height_after.height (derived p),
          )
    ]

pub returns-in_default : goal.returns-in_default
returns-in_default c = onward (goal.at.returns-in_default c).After-add_at

pub returns-in_default-height_after : goal.returns-in_default-height_after
returns-in_default-height_after c = onward (goal.at.returns-in_default-height_after c).After-add_at
