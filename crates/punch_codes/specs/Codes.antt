-- The codes of an item on a punched tape, for the 8-font machine (document 02, "Punching a tape"). What has to be sent is the difference of two states of the machine.
--     begun_from          the machine after initialize and an escape of 16
--     upper_rail_of ..       the switches that a font asks for: upper_mag_of, tilt_down_of
--     upper_half_of          the half that a character asks for, and flash_for its flash there
--     carriage_for        where the carriage stands for a character
--     backward_to         the direction in force after a motion
--     set_for             the machine set for a character
--     switch_codes ..     what is sent where the machine differs: size_codes, and motion_codes for a motion
--     setting_codes       from one state to another: font_codes (rail, mag and tilt), half and size
--     moving_codes        and then sideways, and up or down
--     item_codes          the codes of an item, and state_after the machine after them
use Rattle.std.specs.Prelude.{ℕ, ◌+◌, ◌-◌, ◌/◌, ◌%◌, Bool, true, false, cond, List, [], ◌∷◌, ◌++◌, eqb, ltb, ℤ, pos, nat_abs, ◌+ℤ◌, ◌-ℤ◌, replicate}
use Rattle.std.specs.Int.Signed.{lt_z}
use Rattle.std.proofs.Common.{lit≤}
use Rattle.galley_file.specs.declared.character.Character.{Character}
use Rattle.galley_file.specs.declared.item.Item.{Item}
use Rattle.galley_file.specs.declared.item.Item.TheVariants.{Placed, Cut}
use Rattle.galley_file.specs.Font.{font_of, size_index, is_double}
use Rattle.typesetter.specs.declared.code.Machine.TheVariants.{Eight}
use Rattle.typesetter.specs.declared.machine.Modes.{Modes}
use Rattle.typesetter.specs.declared.machine.State.{State}
use Rattle.typesetter.specs.Machine.{start, initialized_of, origin, off_switch_at, with_cut}
use Rattle.punch_codes.specs.declared.axis.Axis.{Axis}

-- ---- "begin, and follow each cut, with initialize and an escape of 16"

abbrev pub start_codes : List ℕ
start_codes = 0x40 ∷ 0xEF ∷ []

abbrev pub begun_from : State → State
begun_from s = off_switch_at (initialized_of s) origin

abbrev pub begun : State
begun = begun_from (start Eight)

-- ---- the machine set for a character

-- lower rail and lower mag, tilt up 1, down 2; upper rail, lower mag, 3 and 4; lower rail, upper mag, 5 and 6; both upper, 7 and 8
abbrev pub upper_rail_of : ℕ → Bool
upper_rail_of font = eqb ((font - 1) / 2 % 2) 1

abbrev pub upper_mag_of : ℕ → Bool
upper_mag_of font = ltb 4 font

abbrev pub tilt_down_of : ℕ → Bool
tilt_down_of font = eqb (font % 2) 0

-- lower half: character v; upper half: 63 + v
abbrev pub upper_half_of : ℕ → Bool
upper_half_of code = ltb 63 code

unfoldable pub flash_for : ℕ → ℕ
flash_for code = cond (upper_half_of code) (code - 63) code

-- x is the carriage, less 55 in a double size
unfoldable pub carriage_of : ℤ → Bool → ℤ
carriage_of x true = x +ℤ pos 55
carriage_of x false = x

abbrev pub carriage_for : Character → ℤ
carriage_for c = carriage_of c.x.0 (is_double (size_index c.font))

-- true is backward; a machine that stands there already keeps its direction
unfoldable pub backward_to : Bool → ℤ → ℤ → Bool
backward_to now from to = cond (lt_z to from) true (cond (lt_z from to) false now)

-- the modes for a character, where the carriage goes to `across`
abbrev pub modes_for : State → Character → ℤ → Modes
modes_for s c across =
    record {
      escape_back = backward_to s.modes.escape_back s.carriage.0 across;
      lead_back = backward_to s.modes.lead_back s.height.0 c.height.0;
      upper_half = upper_half_of c.code;
      upper_rail = upper_rail_of (font_of c.font);
      upper_mag = upper_mag_of (font_of c.font);
      tilt_down = tilt_down_of (font_of c.font);
    }

unfoldable pub set_for : State → Character → State
set_for s c =
    record {
      machine = s.machine;
      initialized = s.initialized;
      parked = s.parked;
      stopped = s.stopped;
      cut = s.cut;
      modes = modes_for s c (carriage_for c);
      size = size_index c.font;
      carriage = record { 0 = carriage_for c };
      height = c.height;
    }

-- ---- the codes sent

-- a switch that stands at `now` and is to stand at `next`: nothing, or the code for false or for true
unfoldable pub switch_codes : ℕ → ℕ → Bool → Bool → List ℕ
switch_codes off on false false = []
switch_codes off on false true = on ∷ []
switch_codes off on true false = off ∷ []
switch_codes off on true true = []

unfoldable pub size_codes : ℕ → ℕ → List ℕ
size_codes now next = cond (eqb now next) [] ((0x50 + next) ∷ [])

-- a remainder, if not 0. The low bits are complemented: its code is the longest motion's, and more by what it is shorter
unfoldable pub remainder_codes : ℕ → ℕ → ℕ → List ℕ
remainder_codes longest code n = cond (eqb n 0) [] ((code + (longest - n)) ∷ [])

-- a distance: "the longest motions first and the remainder, if not 0, last". The longest motion has this code
unfoldable pub distance_codes : ℕ → ℕ → ℕ → List ℕ
distance_codes longest code n = replicate (n / longest) code ++ remainder_codes longest code (n % longest)

-- the codes of escapes and of leads: their two directions, the longest motion and its code
abbrev pub escapes : Axis
escapes = record { forward = 0x47; backward = 0x48; longest = 127; code = 0x80; moves = lit≤ tt; code_fits = lit≤ tt }

abbrev pub leads : Axis
leads = record { forward = 0x4A; backward = 0x4C; longest = 31; code = 0x60; moves = lit≤ tt; code_fits = lit≤ tt }

-- "the direction code if needed", and the motions from place to place
unfoldable pub motion_codes : Axis → Bool → Bool → ℤ → ℤ → List ℕ
motion_codes axis now next from to =
    switch_codes axis.forward axis.backward now next ++ distance_codes axis.longest axis.code (nat_abs (to -ℤ from))

-- "send, where the machine differs, rail, mag, tilt, half and size, in that order"
unfoldable pub font_codes : Modes → Modes → List ℕ
font_codes m n =
    switch_codes 0x41 0x42 m.upper_rail n.upper_rail
    ++ (switch_codes 0x44 0x43 m.upper_mag n.upper_mag
    ++ switch_codes 0x4E 0x4F m.tilt_down n.tilt_down)

unfoldable pub setting_codes : State → State → List ℕ
setting_codes s t =
    font_codes s.modes t.modes
    ++ (switch_codes 0x45 0x46 s.modes.upper_half t.modes.upper_half
    ++ size_codes s.size t.size)

-- "then go sideways and then up or down"
unfoldable pub moving_codes : State → State → List ℕ
moving_codes s t =
    motion_codes escapes s.modes.escape_back t.modes.escape_back s.carriage.0 t.carriage.0
    ++ motion_codes leads s.modes.lead_back t.modes.lead_back s.height.0 t.height.0

-- ---- items

-- "then flash"; a cut is followed by a new beginning
unfoldable pub item_codes : State → Item → List ℕ
item_codes s (Placed c) = setting_codes s (set_for s c) ++ (moving_codes s (set_for s c) ++ (flash_for c.code ∷ []))
item_codes s Cut = 0x4B ∷ start_codes

unfoldable pub state_after : State → Item → State
state_after s (Placed c) = set_for s c
state_after s Cut = begun_from (with_cut s)
