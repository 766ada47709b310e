-- Flashes, escapes and leads are the same on either machine; a number of fonts that names none.
--     machine_refused    a number that names no machine is refused for that
--     code_flash, code_escape, code_lead    which codes they are, by their bytes
-- Assumes nothing.
use Rattle.std.specs.Prelude.{◌≡◌, ℕ, ◌-◌, ◌%◌, ◌≤◌, ◌<◌, Bool, true, false, cond, eqb, Ok, Err}
use Rattle.octets.specs.declared.refusal.Reason.{Reason}
use Rattle.octets.specs.declared.refusal.Reason.TheVariants.{NoMachine}
use Rattle.std.proofs.Common.{arith, ne_eqb, lt-ltb, le-ltb}
use Rattle.typesetter.specs.declared.code.Machine.{Machine}
use Rattle.typesetter.specs.declared.code.Machine.TheVariants.{Four, Eight}
use Rattle.typesetter.specs.declared.code.Instruction.TheVariants.{Flash, Lead, Escape}
use Rattle.typesetter.specs.declared.code.Code.TheVariants.{Instructs}
use Rattle.typesetter.specs.Code.{machine_of, code_of}

pub machine_refused : (n : ℕ) {r : Reason} → machine_of n ≡ Err r → r ≡ NoMachine
machine_refused n {r} = go (eqb n 4) (eqb n 8)
  where
    go : (t u : Bool) → cond t (Ok Four) (cond u (Ok Eight) (Err NoMachine)) ≡ Err r → r ≡ NoMachine
    go true u e = cc
    go false true e = cc
    go false false e = cc

pub not_zero : (b : ℕ) → 1 ≤ b → b ≡ 0 → ⊥
not_zero b h e = omega arith

pub code_flash : (machine : Machine) (b : ℕ) → 1 ≤ b → b < 64 → code_of machine b ≡ Instructs (Flash b)
unfolding code_of
code_flash machine b h k = rw (ne_eqb b 0 (not_zero b h), lt-ltb _ _ k)

pub code_escape : (machine : Machine) (b : ℕ) → 128 ≤ b → b < 255 → code_of machine b ≡ Instructs (Escape (127 - b % 128))
unfolding code_of
code_escape machine b h k =
    rw (ne_eqb b 0 (not_zero b (omega arith)), le-ltb b 64 (omega arith), le-ltb b 80 (omega arith), le-ltb b 95 (omega arith), le-ltb b 96 (omega arith), le-ltb b 128 h, lt-ltb b 255 k)

pub code_lead : (machine : Machine) (b : ℕ) → 96 ≤ b → b < 128 → code_of machine b ≡ Instructs (Lead (31 - b % 32))
unfolding code_of
code_lead machine b h k =
    rw (ne_eqb b 0 (not_zero b (omega arith)), le-ltb b 64 (omega arith), le-ltb b 80 (omega arith), le-ltb b 95 (omega arith), le-ltb b 96 h, lt-ltb b 128 k)
