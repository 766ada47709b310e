-- `tape_quick::height_after` meets its contract: a lead of a machine at work moves the height alone.
-- Assumes nothing.
use mathlib.Core.Path.{◌≡◌, ap, sym, ◌∙◌}
use Prim.Native.Nat.{ℕ, ◌-◌, ◌%◌, ◌≤◌, ◌<◌}
use native.Mathlib.Omega.{arith}
use lib.IntN.{◌+ℤ◌}
use Rattle.std.specs.Prelude.{Option, Some, None}
use Rattle.measure.specs.declared.Quanta.{Quanta}
use Rattle.measure.specs.Place.{directed_by, height_at}
use Rattle.typesetter.specs.declared.machine.State.{State}
use Rattle.typesetter.specs.CodeLaws.{code_lead}
use Rattle.typesetter.specs.Machine.{instruction_effect}
use Rattle.typesetter.specs.StepLaws.{instruction_taken, lead_to}
use Rattle.tape_stretch.specs.Stretch.{Ready}
use Rattle.tape_quick.specs.Turn.{Leads}
use Rattle.tape_quick.proofs.height_after.Goals as goal

quick-lead : (s : State) (b : ℕ) → Ready s → 96 ≤ b → b < 128 → (r : Option Quanta) → height_at (s.height.0 +ℤ directed_by s.modes.lead_back (31 - b % 32)) ≡ r → Leads s b r
unfolding instruction_effect
quick-lead s b r h k (Some t) e = sym (lead_to s (31 - b % 32) e ∙ instruction_taken s b (code_lead s.machine b h k) r.begun r.uncut r.unstopped)
quick-lead s b r h k None e = tt

pub returns-then-is_ready : goal.returns-then-is_ready
returns-then-is_ready c =
    let a = c.args in
    let test = c.if-b-eq3.true in
    let runs = c.is_ready.ensures c.if-is_ready.true in
    quick-lead a.s a.b runs (omega (arith, test)) (omega (arith, test)) c.lead.result
    (ap (λ (n : ℕ). height_at (a.s.height.0 +ℤ directed_by a.s.modes.lead_back n)) (sym c.lead_size.ensures) ∙ sym c.lead.ensures)
