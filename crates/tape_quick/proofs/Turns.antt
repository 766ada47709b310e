-- The codes that turn a mode or set a size: what the quick way makes of them is what the machine does, by one computed equation over the codes.
-- Assumes nothing.
use Rattle.std.specs.Prelude.{Ok}
use mathlib.Core.Path.{◌≡◌, refl, sym, ap, ◌∙◌}
use mathlib.Core.Bool.{Bool, true, false, cond, not, ◌&&◌, ◌||◌}
use mathlib.Core.List.{map}
use Prim.Native.Nat.{ℕ, ◌/◌, ◌<◌}
use native.Mathlib.Omega.{arith}
use borrow.Author.Tests.{eqb-true}
use Rattle.octets.specs.FieldLaws.{both}
use Rattle.integers.specs.Tables.{numbers, agree}
use Rattle.typesetter.specs.declared.code.Machine.{Machine}
use Rattle.typesetter.specs.declared.code.Machine.TheVariants.{Four, Eight}
use Rattle.typesetter.specs.declared.machine.Modes.{Modes}
use Rattle.typesetter.specs.declared.machine.State.{State}
use Rattle.typesetter.specs.declared.machine.Effect.TheVariants.{Moved}
use Rattle.typesetter.specs.Code.{code_of}
use Rattle.typesetter.specs.Machine.{Step, instruction_effect, code_effect, byte_effect}
use Rattle.tape_stretch.specs.Stretch.{Ready}
use Rattle.tape_quick.specs.Turn.{is_turn, modes_after, size_after, settled}

-- a mode that a code sets, clears or leaves
pub either : (on off mode : Bool) → (mode && not off || on) ≡ cond on true (cond off false mode)
either true true true = refl
either true true false = refl
either true false true = refl
either true false false = refl
either false true true = refl
either false true false = refl
either false false true = refl
either false false false = refl

-- the machine at work, in other respects as in s
abbrev at_work : Machine → State → State
at_work machine s = record { machine = machine; initialized = true; parked = s.parked; stopped = false; cut = false; modes = s.modes; size = s.size; carriage = s.carriage; height = s.height }

-- where b turns a mode or sets a size: its effect, and what the quick way computes
module _ (machine : Machine) (s : State) (b : ℕ) where
  abbrev whole : Step
  whole = cond (is_turn machine b) (byte_effect (at_work machine s) b) (Ok (Moved s))

  abbrev quick : Step
  quick = cond (is_turn machine b) (Ok (Moved (settled (at_work machine s) (modes_after s.modes b) (size_after s.size b)))) (Ok (Moved s))

all_turns : (machine : Machine) (s : State) → map (whole machine s) (numbers 0 96) ≡ map (quick machine s) (numbers 0 96)
unfolding byte_effect code_effect code_of instruction_effect
all_turns Four s = refl
all_turns Eight s = refl

pub turn_low : (machine : Machine) (b : ℕ) → is_turn machine b ≡ true → b < 96
turn_low machine b h = omega (arith, eqb-true (b / 32) 2 (both _ _ h).0)

module _ (s : State) (r : Ready s) where
  at_work_lem : s ≡ at_work s.machine s
  at_work_lem = λ i. record { machine = s.machine; initialized = r.begun i; parked = s.parked; stopped = r.unstopped i; cut = r.uncut i; modes = s.modes; size = s.size; carriage = s.carriage; height = s.height }

  pub turn_taken : (b : ℕ) → is_turn s.machine b ≡ true → (m : Modes) → m ≡ modes_after s.modes b → (z : ℕ) → z ≡ size_after s.size b
      → byte_effect s b ≡ Ok (Moved (settled s m z))
  turn_taken b t m em z ez =
      let kind = s.machine in
      ap (λ (u : State). byte_effect u b) at_work_lem
      ∙ sym (ap (λ (u : Bool). cond u (byte_effect (at_work kind s) b) (Ok (Moved s))) t)
      ∙ agree (whole kind s) (quick kind s) (Ok (Moved s)) 96 (all_turns kind s) b (turn_low kind b t)
      ∙ ap (λ (u : Bool). cond u (Ok (Moved (settled (at_work kind s) (modes_after s.modes b) (size_after s.size b)))) (Ok (Moved s))) t
      ∙ (λ i. Ok (Moved (settled (sym at_work_lem i) (sym em i) (sym ez i))))
