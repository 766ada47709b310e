-- `tape_stretch::write_stretch` meets its contract. What a pass keeps is kept code by code, whatever it started from.
-- Assumes nothing.
use Rattle.std.specs.Prelude.{Some}
use mathlib.Core.Path.{sym, ap, subst, ◌∙◌}
use lib.ListN.{get_or}
use mathlib.Core.Bool.{true}
use Rattle.tape_stretch.specs.declared.Stretch.{Stretch}
use Rattle.typesetter.specs.Machine.{with_carriage}
use Rattle.tape_stretch.specs.Stretch.{Quickly}
use Rattle.tape_stretch.specs.Further.{Stretched, here, moved, flashed}
use Rattle.tape_stretch.specs.FurtherLaws.{further_sound}
use Rattle.tape_stretch.proofs.Stretches.{still_derived}
use Rattle.tape_stretch.proofs.write_stretch.Goals as goal
use Rattle.tape_stretch.proofs.write_stretch.Goals.{After-at-r}

-- no code yet
begun : (c : After-at-r) → Stretched true c.args.tape.now c.args.out.now c.args.s c.args.before c.args.cuts c.args.from c.at-r.result c.args.out.now
begun c =
    let a = c.args in
    subst (λ (r : Stretch). Stretched true a.tape.now a.out.now a.s a.before a.cuts a.from r a.out.now) (sym c.at-r.ensures)
    here

pub returns-then-out-cuts : goal.returns-then-out-cuts
returns-then-out-cuts c = begun (goal.at.returns-then-out-cuts c).After-at-r

pub loop-r-init : goal.loop-r-init
loop-r-init c = begun (goal.at.loop-r-init c).After-at-r

pub quick_step-requires : goal.quick_step-requires
quick_step-requires c =
    let l = c.loop-r in
    (further_sound l.invariant c.requires.0.0, still_derived c.args.s l.r.carriage c.args.s.height c.requires.0.1)

pub loop-r-preserved-in-Some-Set : goal.loop-r-preserved-in-Some-Set
loop-r-preserved-in-Some-Set c =
    let q = c.in-Some-Set in
    let r = c.loop-r.r in
    let e = subst (Quickly (with_carriage c.args.s r.carriage) (get_or c.args.tape.now r.next 0)) (q.is ∙ ap Some q.field-0-is) c.quick_step.ensures in
    flashed c.loop-r.invariant c.loop-r-test.true e c.put_character.ensures.buffer_is

pub loop-r-preserved : goal.loop-r-preserved
loop-r-preserved c =
    let q = c.in-Some-At in
    let r = c.loop-r.r in
    let e = subst (Quickly (with_carriage c.args.s r.carriage) (get_or c.args.tape.now r.next 0)) (q.is ∙ ap Some q.field-0-is) c.quick_step.ensures in
    moved c.loop-r.invariant c.loop-r-test.true e
