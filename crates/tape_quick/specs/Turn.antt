-- The codes that turn a mode or set a size, and the leads, as the quick way takes them. What its contracts cite; nothing here is part of what a
-- call promises.
--     has_tilt                  whether a machine has a tilt
--     is_turn                   whether a code turns a mode or sets a size
--     modes_after, size_after    the modes and the size after such a code
--     settled                  a state with other modes and another size
--     Leads                    a height that a code leads to
use Rattle.std.specs.Prelude.{◌≡◌, Bool, true, false, cond, not, ◌&&◌, ℕ, ◌/◌, ◌%◌, eqb, Option, Some, None, Ok}
use Rattle.measure.specs.declared.Quanta.{Quanta}
use Rattle.typesetter.specs.declared.code.Machine.{Machine}
use Rattle.typesetter.specs.declared.code.Machine.TheVariants.{Four, Eight}
use Rattle.typesetter.specs.declared.machine.Modes.{Modes}
use Rattle.typesetter.specs.declared.machine.State.{State}
use Rattle.typesetter.specs.declared.machine.Effect.TheVariants.{Moved}
use Rattle.typesetter.specs.Machine.{with_modes, with_size, with_height, byte_effect}

-- which machine has a tilt
abbrev pub has_tilt : Machine → Bool
has_tilt Four = false
has_tilt Eight = true

-- none of initialize, stop, the cut and the two illegal codes
abbrev pub settles : ℕ → Bool
settles b = not (eqb b 0x40) && not (eqb b 0x49) && not (eqb b 0x4B) && not (eqb b 0x4D) && not (eqb b 0x5F)

-- 0x40 to 0x5F but those, and but 4E and 4F where there is no tilt
abbrev pub is_turn : Machine → ℕ → Bool
is_turn machine b = eqb (b / 32) 2 && cond (has_tilt machine) (settles b) (settles b && not (eqb (b / 2) 0x27))

-- a mode after a code, by the codes that set and clear it
abbrev pub turned_by : ℕ → ℕ → ℕ → Bool → Bool
turned_by on off b mode = cond (eqb b on) true (cond (eqb b off) false mode)

abbrev pub modes_after : Modes → ℕ → Modes
modes_after m b =
    record {
      escape_back = turned_by 0x48 0x47 b m.escape_back;
      lead_back = turned_by 0x4C 0x4A b m.lead_back;
      upper_half = turned_by 0x46 0x45 b m.upper_half;
      upper_rail = turned_by 0x42 0x41 b m.upper_rail;
      upper_mag = turned_by 0x43 0x44 b m.upper_mag;
      tilt_down = turned_by 0x4F 0x4E b m.tilt_down;
    }

abbrev pub size_after : ℕ → ℕ → ℕ
size_after size b = cond (eqb (b / 16) 5) (b % 16) size

-- a state with other modes and another size
abbrev pub settled : State → Modes → ℕ → State
settled s m z = with_size (with_modes s m) z

-- ---- leads

-- what `height_after` says of a code; of None it says nothing
abbrev pub Leads : State → ℕ → Option Quanta → Type 0
Leads s b (Some h) = byte_effect s b ≡ Ok (Moved (with_height s h))
Leads s b None = Unit {0}
