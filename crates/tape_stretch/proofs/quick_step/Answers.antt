-- `tape_stretch::quick_step` meets its contract: what it answers, `Stretches` shows to be the code's effect.
-- Assumes nothing.
use mathlib.Core.Path.{ap, ◌∙◌}
use Prim.Native.Nat.{◌≤◌}
use native.Mathlib.Omega.{arith}
use Rattle.measure.specs.Target.{x_of}
use Rattle.tape_stretch.specs.Stretch.{Flashing}
use Rattle.tape_stretch.proofs.Stretches.{half_taken, quick_ignored, quick_set, quick_at}
use Rattle.tape_stretch.proofs.quick_step.Goals as goal
use Rattle.tape_stretch.proofs.quick_step.Goals.{Else-b-eq0}

pub returns-then-b-eq0 : goal.returns-then-b-eq0
returns-then-b-eq0 c = let a = c.args in quick_ignored a.s a.b c.if-b-eq0.true

-- a code from 1 to the last flash
flashing : (c : Else-b-eq0) → let a = c.args in Flashing a.s a.d
flashing c = c.requires.1.flashing (omega (arith, c.if-b-eq0.false, c.if-b-d.true))

pub code-requires : goal.code-requires
code-requires c =
    let a = c.args in
    (half_taken a.s.modes.upper_half a.b (omega (arith, (flashing (goal.at.code-requires c).Else-b-eq0).last, c.if-b-d.true))).1

pub returns-then-b-d : goal.returns-then-b-d
returns-then-b-d c =
    let a = c.args in
    quick_set a.s a.b a.d (flashing (goal.at.returns-then-b-d c).Else-b-eq0) (omega (arith, c.if-b-eq0.false)) c.if-b-d.true c.x.result c.code.result
    (c.x.ensures ∙ ap (x_of a.s.carriage.0) c.is_double.ensures) c.code.ensures

pub returns : goal.returns
returns c =
    let a = c.args in
    let low : 128 ≤ a.b = omega (arith, c.if-b-eq0-2.false) in
    let high = c.if-d-b.false in
    quick_at a.s a.b (c.requires.1.escaping (omega (arith, low, high))) low (omega (arith, high, c.requires.1.escapes)) c.in_ok-carriage.carriage
    (cc (c.escape.ensures, c.escape_size.ensures, c.in_ok-carriage.was))
