-- The machine's rules, by what led to them: the laws that the proofs of the whole step and of the quick step cite.
--     flash_set                      a flash that no rule refuses
--     lead_to, escape_to             a motion, by where it ends
--     escape_at                      an escape that ends in range
--     step_ignored, step_illegal     00, and a code that is illegal
--     initialize_stopped, initialize_taken                      initialize
--     instruction_early, instruction_after_cut, instruction_after_stop, instruction_taken    every other code
-- Assumes nothing.
use Rattle.std.specs.Prelude.{◌≡◌, Bool, true, false, cond, ℕ, leb, ◌+ℤ◌, Option, Some, Ok, Err}
use Rattle.std.proofs.Math.Path.{ap}
use Rattle.std.proofs.Common.{sym, ◌∙◌}
use Rattle.octets.specs.declared.refusal.Reason.TheVariants.{AfterCut, AfterStop, IllegalCode, NotInitialized}
use Rattle.measure.specs.declared.Units.{Units}
use Rattle.measure.specs.declared.Quanta.{Quanta}
use Rattle.measure.specs.Place.{directed_by, carriage_at, height_at}
use Rattle.measure.specs.Target.{x_of}
use Rattle.galley_file.specs.Font.{font_number, is_double}
use Rattle.typesetter.specs.declared.code.Instruction.{Instruction}
use Rattle.typesetter.specs.declared.code.Code.TheVariants.{Ignored, Illegal, Initialize, Instructs}
use Rattle.typesetter.specs.declared.machine.State.{State}
use Rattle.typesetter.specs.declared.machine.Effect.TheVariants.{Moved, Flashed}
use Rattle.typesetter.specs.Code.{code_of}
use Rattle.typesetter.specs.Machine.{no_size_yet, initialized_of, font_in, past_half, code_in, with_carriage, to_carriage, to_height, flash_of, escape_of, lead_of, instruction_effect, code_effect, byte_effect}

-- a flash that no rule refuses
pub flash_set : (s : State) (v : ℕ) → s.parked ≡ false → leb no_size_yet s.size ≡ false → past_half s.modes.upper_half v ≡ false
    → (x : Units) (n k : ℕ) → x.0 ≡ x_of s.carriage.0 (is_double s.size) → n ≡ font_number (font_in s.machine s.modes) s.size → k ≡ code_in s.modes.upper_half v
    → Ok (Flashed (record { x = x; height = s.height; font = n; code = k })) ≡ flash_of s v
unfolding flash_of
flash_set s v p z a x n k ex en ek =
    rw (p, z, a) (λ i. Ok (Flashed (record { x = record { 0 = ex i }; height = s.height; font = en i; code = ek i })))

else : {A : Type 0} (t : Bool) (x y : A) → t ≡ false → y ≡ cond t x y
else t x y e = sym (ap (λ (u : Bool). cond u x y) e)

-- a motion, by where it ends
module _ (s : State) (n : ℕ) where
  pub lead_to : {r : Option Quanta} → height_at (s.height.0 +ℤ directed_by s.modes.lead_back n) ≡ r → to_height s r ≡ lead_of s n
  unfolding lead_of
  lead_to e = ap (to_height s) (sym e)

  module _ (free : s.parked ≡ false) where
    pub escape_to : {r : Option Units} → carriage_at (s.carriage.0 +ℤ directed_by s.modes.escape_back n) ≡ r → to_carriage s r ≡ escape_of s n
    unfolding escape_of
    escape_to e = ap (to_carriage s) (sym e) ∙ else s.parked _ _ free

    pub escape_at : (c : Units) → carriage_at (s.carriage.0 +ℤ directed_by s.modes.escape_back n) ≡ Some c → Ok (Moved (with_carriage s c)) ≡ escape_of s n
    escape_at c e =
        (λ i. Ok (Moved (record { machine = s.machine; initialized = s.initialized; parked = free i; stopped = s.stopped; cut = s.cut; modes = s.modes; size = s.size; carriage = c; height = s.height })))
        ∙ escape_to e

-- a step by the class of its code
module _ (s : State) (b : ℕ) where
  pub step_ignored : code_of s.machine b ≡ Ignored → Ok (Moved s) ≡ byte_effect s b
  unfolding byte_effect code_effect
  step_ignored e = rw e

  pub step_illegal : code_of s.machine b ≡ Illegal → Err IllegalCode ≡ byte_effect s b
  unfolding byte_effect code_effect
  step_illegal e = rw e

  pub initialize_stopped : code_of s.machine b ≡ Initialize → s.stopped ≡ true → Err AfterStop ≡ byte_effect s b
  unfolding byte_effect code_effect
  initialize_stopped e t = rw (e, t)

  pub initialize_taken : code_of s.machine b ≡ Initialize → s.stopped ≡ false → Ok (Moved (initialized_of s)) ≡ byte_effect s b
  unfolding byte_effect code_effect
  initialize_taken e t = rw (e, t)

  pub instruction_early : {o : Instruction} → code_of s.machine b ≡ Instructs o → s.initialized ≡ false → Err NotInitialized ≡ byte_effect s b
  unfolding byte_effect code_effect
  instruction_early e i = rw (e, i)

  pub instruction_after_cut : {o : Instruction} → code_of s.machine b ≡ Instructs o → s.initialized ≡ true → s.cut ≡ true → Err AfterCut ≡ byte_effect s b
  unfolding byte_effect code_effect
  instruction_after_cut e i k = rw (e, i, k)

  pub instruction_after_stop : {o : Instruction} → code_of s.machine b ≡ Instructs o → s.initialized ≡ true → s.cut ≡ false → s.stopped ≡ true → Err AfterStop ≡ byte_effect s b
  unfolding byte_effect code_effect
  instruction_after_stop e i k t = rw (e, i, k, t)

  pub instruction_taken : {o : Instruction} → code_of s.machine b ≡ Instructs o → s.initialized ≡ true → s.cut ≡ false → s.stopped ≡ false → instruction_effect s o ≡ byte_effect s b
  unfolding byte_effect code_effect
  instruction_taken e i k t = rw (e, i, k, t)
