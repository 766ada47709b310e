-- The 256 codes sorted by their top bits: the table of codes, by one computed test.
-- Assumes nothing.
use mathlib.Core.Path.{◌≡◌, refl}
use mathlib.Core.Bool.{cond}
use mathlib.Core.List.{map}
use Prim.Native.Nat.{ℕ, ◌-◌, ◌/◌, ◌%◌, ◌<◌}
use lib.Dec.{eqb}
use lib.ListN.{get_or}
use Rattle.integers.specs.Tables.{numbers, agree}
use Rattle.typesetter.specs.declared.code.Machine.{Machine}
use Rattle.typesetter.specs.declared.code.Machine.TheVariants.{Four, Eight}
use Rattle.typesetter.specs.declared.code.Code.{Code}
use Rattle.typesetter.specs.declared.code.Code.TheVariants.{Ignored, Illegal, Instructs}
use Rattle.typesetter.specs.declared.code.Instruction.TheVariants.{Flash, Size, Lead, Escape}
use Rattle.typesetter.specs.Code.{code_of, controls}

-- a code sorted by its top bits
abbrev pub sorted : Machine → ℕ → Code
sorted machine b =
    cond (eqb b 0) Ignored
    (cond (eqb b 255) Illegal
    (cond (eqb (b / 128) 1) (Instructs (Escape (127 - b % 128)))
    (cond (eqb (b / 64) 0) (Instructs (Flash b))
    (cond (eqb (b / 32) 3) (Instructs (Lead (31 - b % 32)))
    (cond (eqb (b / 16) 4) (get_or (controls machine) (b % 16) Illegal)
    (cond (eqb b 95) Illegal
    (Instructs (Size (b % 16)))))))))

all_codes : (machine : Machine) → map (sorted machine) (numbers 0 256) ≡ map (code_of machine) (numbers 0 256)
unfolding code_of
all_codes Four = refl
all_codes Eight = refl

pub sorted_is : (machine : Machine) (b : ℕ) → b < 256 → sorted machine b ≡ code_of machine b
sorted_is machine b h = agree (sorted machine) (code_of machine) Illegal 256 (all_codes machine) b h
