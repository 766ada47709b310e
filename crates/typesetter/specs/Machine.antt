-- The machine of document 01, "Tape codes", and document 02, "The other machine" and "Software cuts": its state, and what one code does to it.
--     with_escape .. with_tilt       the modes with one of them set
--     with_modes .. with_height      a state with one part set
--     off_switch_at, with_cut         a state after an escape, and after a cut
--     start, initialized_of         the state before the first code, and a state after initialize
--     font_in, character_in          the font in force, 1 to 4 or 1 to 8, and the character that a flash sets
--     Step                           what a code does, or the reason that it is refused for
--     flash_of, escape_of, lead_of    the effect of a flash, an escape and a lead
--     instruction_effect            the effect of a code other than 00 and initialize, on an initialized machine that has neither stopped nor cut
--     code_effect                   the effect of a code, by its class
--     byte_effect                     the effect of a byte
use Rattle.std.specs.Prelude.{ℕ, ◌+◌, ◌*◌, Bool, true, false, cond, leb, ltb, eqb, pos, ◌+ℤ◌, Option, Some, None, Result, Ok, Err}
use Rattle.octets.specs.declared.refusal.Reason.{Reason}
use Rattle.octets.specs.declared.refusal.Reason.TheVariants.{IllegalCode, NotInitialized, AfterCut, AfterStop, Parked, NoSize, OutOfRange, AboveHalf}
use Rattle.measure.specs.declared.Units.{Units}
use Rattle.measure.specs.declared.Quanta.{Quanta}
use Rattle.measure.specs.Place.{directed_by, carriage_at, height_at}
use Rattle.measure.specs.Target.{x_of}
use Rattle.galley_file.specs.declared.character.Character.{Character}
use Rattle.galley_file.specs.Font.{font_number, is_double}
use Rattle.typesetter.specs.declared.code.Machine.{Machine}
use Rattle.typesetter.specs.declared.code.Machine.TheVariants.{Four, Eight}
use Rattle.typesetter.specs.declared.code.Instruction.{Instruction}
use Rattle.typesetter.specs.declared.code.Instruction.TheVariants.{Flash, Rail, Mag, Half, EscapeWay, LeadWay, Tilt, Size, Stop, Cut, Lead, Escape}
use Rattle.typesetter.specs.declared.code.Code.{Code}
use Rattle.typesetter.specs.declared.code.Code.TheVariants.{Ignored, Illegal, Initialize, Instructs}
use Rattle.typesetter.specs.declared.machine.Modes.{Modes}
use Rattle.typesetter.specs.declared.machine.State.{State}
use Rattle.typesetter.specs.declared.machine.Effect.{Effect}
use Rattle.typesetter.specs.declared.machine.Effect.TheVariants.{Moved, Flashed, PageEnded}
use Rattle.typesetter.specs.Code.{code_of}

-- ---- parts of a state

-- the modes with one of them set: escape way, lead way, half, rail, mag, tilt
abbrev pub with_escape : Modes → Bool → Modes
with_escape m b = record { escape_back = b; lead_back = m.lead_back; upper_half = m.upper_half; upper_rail = m.upper_rail; upper_mag = m.upper_mag; tilt_down = m.tilt_down }

abbrev pub with_lead : Modes → Bool → Modes
with_lead m b = record { escape_back = m.escape_back; lead_back = b; upper_half = m.upper_half; upper_rail = m.upper_rail; upper_mag = m.upper_mag; tilt_down = m.tilt_down }

abbrev pub with_half : Modes → Bool → Modes
with_half m b = record { escape_back = m.escape_back; lead_back = m.lead_back; upper_half = b; upper_rail = m.upper_rail; upper_mag = m.upper_mag; tilt_down = m.tilt_down }

abbrev pub with_rail : Modes → Bool → Modes
with_rail m b = record { escape_back = m.escape_back; lead_back = m.lead_back; upper_half = m.upper_half; upper_rail = b; upper_mag = m.upper_mag; tilt_down = m.tilt_down }

abbrev pub with_mag : Modes → Bool → Modes
with_mag m b = record { escape_back = m.escape_back; lead_back = m.lead_back; upper_half = m.upper_half; upper_rail = m.upper_rail; upper_mag = b; tilt_down = m.tilt_down }

abbrev pub with_tilt : Modes → Bool → Modes
with_tilt m b = record { escape_back = m.escape_back; lead_back = m.lead_back; upper_half = m.upper_half; upper_rail = m.upper_rail; upper_mag = m.upper_mag; tilt_down = b }

-- a state with other modes, size, stop, carriage or height
abbrev pub with_modes : State → Modes → State
with_modes s m = record { machine = s.machine; initialized = s.initialized; parked = s.parked; stopped = s.stopped; cut = s.cut; modes = m; size = s.size; carriage = s.carriage; height = s.height }

abbrev pub with_size : State → ℕ → State
with_size s n = record { machine = s.machine; initialized = s.initialized; parked = s.parked; stopped = s.stopped; cut = s.cut; modes = s.modes; size = n; carriage = s.carriage; height = s.height }

abbrev pub with_stop : State → State
with_stop s = record { machine = s.machine; initialized = s.initialized; parked = s.parked; stopped = true; cut = s.cut; modes = s.modes; size = s.size; carriage = s.carriage; height = s.height }

abbrev pub with_carriage : State → Units → State
with_carriage s c = record { machine = s.machine; initialized = s.initialized; parked = s.parked; stopped = s.stopped; cut = s.cut; modes = s.modes; size = s.size; carriage = c; height = s.height }

abbrev pub with_height : State → Quanta → State
with_height s h = record { machine = s.machine; initialized = s.initialized; parked = s.parked; stopped = s.stopped; cut = s.cut; modes = s.modes; size = s.size; carriage = s.carriage; height = h }

-- an escape: the carriage at c, off the left switch
abbrev pub off_switch_at : State → Units → State
off_switch_at s c = record { machine = s.machine; initialized = s.initialized; parked = false; stopped = s.stopped; cut = s.cut; modes = s.modes; size = s.size; carriage = c; height = s.height }

-- a cut: height 0, and initialize has to come
abbrev pub with_cut : State → State
with_cut s = record { machine = s.machine; initialized = s.initialized; parked = s.parked; stopped = s.stopped; cut = true; modes = s.modes; size = s.size; carriage = s.carriage; height = record { 0 = pos 0 } }

-- ---- the start, and initialize

-- forward escape, forward lead, lower half, lower rail, lower mag, tilt down
abbrev pub first_modes : Modes
first_modes =
    record { escape_back = false; lead_back = false; upper_half = false; upper_rail = false; upper_mag = false; tilt_down = true }

-- the carriage after the escape of 16 that leaves the left switch
abbrev pub origin : Units
origin = record { 0 = pos 0 }

-- no size yet: no size index
abbrev pub no_size_yet : ℕ
no_size_yet = 15

-- height 0
abbrev pub start : Machine → State
start machine =
    record { machine = machine; initialized = false; parked = false; stopped = false; cut = false; modes = first_modes; size = no_size_yet; carriage = origin; height = record { 0 = pos 0 } }

-- initialize: the modes above, parked at the left switch; size and height stay, and a cut is done with
abbrev pub initialized_of : State → State
initialized_of s =
    record { machine = s.machine; initialized = true; parked = true; stopped = s.stopped; cut = false; modes = first_modes; size = s.size; carriage = origin; height = s.height }

-- ---- flashes

-- the four pairs of upper rail and upper mag, in the order of document 01
abbrev pub pair_of : Bool → Bool → ℕ
pair_of false false = 0
pair_of true false = 1
pair_of false true = 2
pair_of true true = 3

-- a pair is a font of the 4-font machine, and two of the 8-font machine: tilt up, and tilt down
abbrev pub font_at : Machine → Bool → Bool → Bool → ℕ
font_at Four rail mag tilt = pair_of rail mag + 1
font_at Eight rail mag false = 2 * pair_of rail mag + 1
font_at Eight rail mag true = 2 * pair_of rail mag + 2

abbrev pub font_in : Machine → Modes → ℕ
font_in machine m = font_at machine m.upper_rail m.upper_mag m.tilt_down

-- upper half flash above 45
abbrev pub past_half : Bool → ℕ → Bool
past_half false v = false
past_half true v = ltb 45 v

-- lower half: character v; upper half: 63 + v
abbrev pub code_in : Bool → ℕ → ℕ
code_in false v = v
code_in true v = 63 + v

-- x is the carriage, less 55 in a double size
abbrev pub character_in : State → ℕ → Character
character_in s v =
    record {
      x = record { 0 = x_of s.carriage.0 (is_double s.size) };
      height = s.height;
      font = font_number (font_in s.machine s.modes) s.size;
      code = code_in s.modes.upper_half v;
    }

-- an effect, or the reason of a refusal
abbrev pub Step : Type 0
Step = Result Effect Reason

-- a flash of v: 5 parked; 6 no size yet; 8 upper half above 45
unfoldable pub flash_of : State → ℕ → Step
flash_of s v =
    cond s.parked (Err Parked)
    (cond (leb no_size_yet s.size) (Err NoSize)
    (cond (past_half s.modes.upper_half v) (Err AboveHalf)
    (Ok (Flashed (character_in s v)))))

-- ---- motions

-- while parked, the only escape taken is one of exactly 16, forward
abbrev pub leaves_switch : Bool → ℕ → Bool
leaves_switch true n = false
leaves_switch false n = eqb n 16

-- 7 where the carriage, or the height, would leave its range
abbrev pub to_carriage : State → Option Units → Step
to_carriage s (Some c) = Ok (Moved (off_switch_at s c))
to_carriage s None = Err OutOfRange

abbrev pub to_height : State → Option Quanta → Step
to_height s (Some h) = Ok (Moved (with_height s h))
to_height s None = Err OutOfRange

-- an escape of n: 5 parked and not forward 16; else a motion
unfoldable pub escape_of : State → ℕ → Step
escape_of s n =
    cond s.parked
    (cond (leaves_switch s.modes.escape_back n) (Ok (Moved (off_switch_at s origin))) (Err Parked))
    (to_carriage s (carriage_at (s.carriage.0 +ℤ directed_by s.modes.escape_back n)))

-- a lead of n, parked or not
unfoldable pub lead_of : State → ℕ → Step
lead_of s n = to_height s (height_at (s.height.0 +ℤ directed_by s.modes.lead_back n))

-- ---- one code

unfoldable pub instruction_effect : State → Instruction → Step
instruction_effect s (Flash v) = flash_of s v
instruction_effect s (Rail up) = Ok (Moved (with_modes s (with_rail s.modes up)))
instruction_effect s (Mag up) = Ok (Moved (with_modes s (with_mag s.modes up)))
instruction_effect s (Half up) = Ok (Moved (with_modes s (with_half s.modes up)))
instruction_effect s (EscapeWay back) = Ok (Moved (with_modes s (with_escape s.modes back)))
instruction_effect s (LeadWay back) = Ok (Moved (with_modes s (with_lead s.modes back)))
instruction_effect s (Tilt down) = Ok (Moved (with_modes s (with_tilt s.modes down)))
instruction_effect s (Size index) = Ok (Moved (with_size s index))
instruction_effect s Stop = Ok (Moved (with_stop s))
instruction_effect s Cut = Ok (PageEnded (with_cut s))
instruction_effect s (Lead n) = lead_of s n
instruction_effect s (Escape n) = escape_of s n

-- 00 is ignored everywhere; 2 illegal; 3 before the first initialize; 10 after a cut, unless initialize; 4 after stop; then the code's
-- own rules
unfoldable pub code_effect : State → Code → Step
code_effect s Ignored = Ok (Moved s)
code_effect s Illegal = Err IllegalCode
code_effect s Initialize = cond s.stopped (Err AfterStop) (Ok (Moved (initialized_of s)))
code_effect s (Instructs o) =
    cond s.initialized
    (cond s.cut (Err AfterCut) (cond s.stopped (Err AfterStop) (instruction_effect s o)))
    (Err NotInitialized)

unfoldable pub byte_effect : State → ℕ → Step
byte_effect s b = code_effect s (code_of s.machine b)
