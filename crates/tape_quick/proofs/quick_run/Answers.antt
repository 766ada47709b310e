-- `tape_quick::quick_run` meets its contract: what a pass keeps is kept by each stretch, each turn and each lead.
-- Assumes nothing.
use mathlib.Core.Path.{◌≡◌, sym, ap, subst, ◌∙◌}
use Prim.Native.Nat.{ℕ, ◌+◌, ◌<◌}
use native.Mathlib.Omega.{arith}
use borrow.Author.Tests.{ltb-true}
use lib.ListN.{length, get_or}
use Rattle.typesetter.specs.declared.machine.State.{State}
use Rattle.std.specs.Prelude.{Ok}
use Rattle.std.proofs.lemmas.Option.{slice_get-get_or, get_or_from_slice_get}
use Rattle.typesetter.specs.declared.machine.Effect.TheVariants.{Moved}
use Rattle.typesetter.specs.Machine.{with_carriage, byte_effect}
use Rattle.tape_stretch.specs.Stretch.{DerivedFrom}
use Rattle.tape_stretch.specs.Further.{Further, here, moved}
use Rattle.tape_stretch.specs.FurtherLaws.{further_onward, further_few, further_sound, further_then}
use Rattle.tape_stretch.proofs.Stretches.{still_derived}
use Rattle.tape_quick.specs.Turn.{Leads}
use Rattle.tape_quick.proofs.Turns.{turn_taken}
use Rattle.tape_quick.proofs.quick_run.Goals as goal
use Rattle.tape_quick.proofs.quick_run.Goals.{In-Some, After-quick_stretch-r, then-takes_turn, else-takes_turn+in-Some-height_after}

-- after a stretch
module _ (c : After-quick_stretch-r) where
  abbrev now : State
  now = with_carriage c.loop-b.s c.quick_stretch-r.result.carriage

  further : let a = c.args in let r = c.quick_stretch-r in Further a.writing a.tape.now a.out.now a.first a.before a.cuts a.from now r.result.count r.result.next r.new.out
  further = further_then c.loop-b.invariant.0 c.quick_stretch-r.ensures

  derived : DerivedFrom now c.loop-b.d
  derived = let l = c.loop-b in still_derived l.s c.quick_stretch-r.result.carriage l.s.height l.invariant.1

  -- the code after a stretch moves the machine
  goes : {b : ℕ} {t : State} → (let i = c.quick_stretch-r.result.next in (i < length c.args.tape.now) × (b ≡ get_or c.args.tape.now i 0)) → byte_effect now b ≡ Ok (Moved t)
      → let a = c.args in let r = c.quick_stretch-r in Further a.writing a.tape.now a.out.now a.first a.before a.cuts a.from t r.result.count (r.result.next + 1) r.new.out
  goes r e = moved further r.0 (ap (byte_effect now) (sym r.1) ∙ e)

-- that code
read : (c : In-Some) → let i = c.quick_stretch-r.result.next in (i < length c.args.tape.now) × (c.in-Some.field-0.now ≡ get_or c.args.tape.now i 0)
read c =
    let tape = c.args.tape.now in
    let i = c.quick_stretch-r.result.next in
    let h = ltb-true i (length tape) (sym c.in-Some.ensures.lookup.0) in
    (h, c.in-Some.ensures.lookup.1 ∙ sym (get_or_from_slice_get tape i _ 0 (slice_get-get_or tape i _ h)))

pub loop-b-init : goal.loop-b-init
loop-b-init c = (here, c.of-d.ensures)

pub quick_stretch-r-requires : goal.quick_stretch-r-requires
quick_stretch-r-requires c =
    let f = c.loop-b.invariant.0 in
    ((further_sound f c.requires.0, c.loop-b.invariant.1), further_few f c.requires.1)

pub loop-b-smaller : goal.loop-b-smaller
loop-b-smaller c = omega (arith, (read (goal.at.loop-b-smaller c).In-Some).0, further_onward c.quick_stretch-r.ensures)

pub loop-b-preserved : goal.loop-b-preserved
loop-b-preserved c =
    let at = goal.at.loop-b-preserved c in
    let s = now at.After-quick_stretch-r in
    elim c.if-takes_turn.branch [
      | then-takes_turn w ↦
          let turn = c.takes_turn.ensures w.if-takes_turn.true in
          rw (w.s-is, w.d-is) (goes at.After-quick_stretch-r (read at.In-Some) (turn_taken s turn.0 c.in-Some.field-0.now turn.1 w.modes_after-s.result w.modes_after-s.ensures w.size_after.result w.size_after.ensures), w.of-d-then-takes_turn.ensures)
      | else-takes_turn+in-Some-height_after w ↦
          rw (w.s-is, w.d-is) (goes at.After-quick_stretch-r (read at.In-Some) (subst (Leads s c.in-Some.field-0.now) w.in-Some-height_after.is w.height_after.ensures), still_derived s s.carriage w.in-Some-height_after.height (derived at.After-quick_stretch-r))
    ]

pub returns-in_default : goal.returns-in_default
returns-in_default c = further (goal.at.returns-in_default c).After-quick_stretch-r

pub returns-in_default-height_after : goal.returns-in_default-height_after
returns-in_default-height_after c = further (goal.at.returns-in_default-height_after c).After-quick_stretch-r
