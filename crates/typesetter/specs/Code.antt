-- Document 01, "Tape codes (000)", and document 02, "The other machine" and "Software cuts": what each code means.
--     machine_of    the machine of a number of fonts
--     tilt_of      a tilt code of either machine
--     controls    the codes 40 to 4F
--     code_of      every code
use Rattle.std.specs.Prelude.{ℕ, ◌-◌, ◌%◌, Bool, true, false, cond, List, [], ◌∷◌, get_or, eqb, ltb, Result, Ok, Err}
use Rattle.octets.specs.declared.refusal.Reason.{Reason}
use Rattle.octets.specs.declared.refusal.Reason.TheVariants.{NoMachine}
use Rattle.typesetter.specs.declared.code.Machine.{Machine}
use Rattle.typesetter.specs.declared.code.Machine.TheVariants.{Four, Eight}
use Rattle.typesetter.specs.declared.code.Instruction.TheVariants.{Flash, Rail, Mag, Half, EscapeWay, LeadWay, Tilt, Size, Stop, Cut, Lead, Escape}
use Rattle.typesetter.specs.declared.code.Code.{Code}
use Rattle.typesetter.specs.declared.code.Code.TheVariants.{Ignored, Illegal, Initialize, Instructs}

-- the machine of this number of fonts
abbrev pub machine_of : ℕ → Result Machine Reason
machine_of n = cond (eqb n 4) (Ok Four) (cond (eqb n 8) (Ok Eight) (Err NoMachine))

-- "4E and 4F get 2 on a 4-font machine"
abbrev pub tilt_of : Machine → Bool → Code
tilt_of Four down = Illegal
tilt_of Eight down = Instructs (Tilt down)

-- codes 40 to 4F. A Bool is true for upper, backward and down
abbrev pub controls : Machine → List Code
controls machine =
    Initialize  -- 40 initialize
    ∷ Instructs (Rail false)  -- 41 lower rail
    ∷ Instructs (Rail true)  -- 42 upper rail
    ∷ Instructs (Mag true)  -- 43 upper mag
    ∷ Instructs (Mag false)  -- 44 lower mag
    ∷ Instructs (Half false)  -- 45 lower half
    ∷ Instructs (Half true)  -- 46 upper half
    ∷ Instructs (EscapeWay false)  -- 47 escape forward
    ∷ Instructs (EscapeWay true)  -- 48 escape backward
    ∷ Instructs Stop  -- 49 stop
    ∷ Instructs (LeadWay false)  -- 4A lead forward
    ∷ Instructs Cut  -- 4B software cut
    ∷ Instructs (LeadWay true)  -- 4C lead backward
    ∷ Illegal  -- 4D
    ∷ tilt_of machine false  -- 4E tilt up
    ∷ tilt_of machine true  -- 4F tilt down
    ∷ []

-- the table of codes, from the top: 00; 01-3F; 40-4F; 50-5E; 5F; 60-7F; 80-FE; FF
unfoldable pub code_of : Machine → ℕ → Code
code_of machine b =
    cond (eqb b 0x00) Ignored
    (cond (ltb b 0x40) (Instructs (Flash b))
    (cond (ltb b 0x50) (get_or (controls machine) (b - 0x40) Illegal)
    (cond (ltb b 0x5F) (Instructs (Size (b - 0x50)))
    (cond (ltb b 0x60) Illegal
    (cond (ltb b 0x80) (Instructs (Lead (31 - b % 32)))
    (cond (ltb b 0xFF) (Instructs (Escape (127 - b % 128)))
    Illegal))))))
