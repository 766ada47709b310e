-- Stretches of 00, flashes and escapes, without the whole step. What their contracts cite; nothing here is part of what a call promises.
--     Ready                  a machine at work
--     DerivedFrom            what is derived from a state and outlives flashes and escapes
--     Takes                  a code that is taken, if the carriage stays in range
--     escape_by, flashes_in    how far such a code moves, and how many characters it sets
--     Quickly                what the quick step says of a code
--     Strides                the codes of a stretch
--     stretch_at              a stretch of no codes
use Rattle.std.specs.Prelude.{◌≡◌, Bool, true, false, cond, List, ℕ, ◌+◌, ◌-◌, ◌*◌, ◌/◌, ◌%◌, ◌≤◌, ◌<◌, eqb, length, get_or, Option, Some, None, Ok}
use Rattle.measure.specs.declared.Units.{Units}
use Rattle.galley_file.specs.declared.character.Character.{Character}
use Rattle.galley_file.specs.Font.{font_number}
use Rattle.typesetter.specs.declared.machine.State.{State}
use Rattle.typesetter.specs.declared.machine.Effect.TheVariants.{Moved, Flashed}
use Rattle.tape_stretch.specs.declared.derived.Derived.{Derived}
use Rattle.tape_stretch.specs.declared.Stretch.{Stretch}
use Rattle.tape_stretch.specs.declared.Quick.{Quick}
use Rattle.tape_stretch.specs.declared.Quick.TheVariants as quick
use Rattle.typesetter.specs.Machine.{no_size_yet, font_in, with_carriage, byte_effect}

-- initialized, neither stopped nor cut, and off the left switch
pub record Ready (s : State) : Type 0 where
  pub begun : s.initialized ≡ true
  pub uncut : s.cut ≡ false
  pub unstopped : s.stopped ≡ false
  pub unparked : s.parked ≡ false

-- the last flash of a half
abbrev pub half_size : Bool → ℕ
half_size true = 45
half_size false = 63

-- what is derived from a state that takes flashes
pub record Flashing (s : State) (d : Derived) : Type 0 where
  pub runs : Ready s
  pub sized : s.size < no_size_yet
  pub last : d.last_flash ≡ half_size s.modes.upper_half
  pub number : d.font ≡ font_number (font_in s.machine s.modes) s.size

-- what is derived from a state: nothing of it is about the carriage or the height
pub record DerivedFrom (s : State) (d : Derived) : Type 0 where
  pub numbered : d.font < 120
  pub escapes : d.last_escape ≤ 254
  pub escaping : 1 ≤ d.last_escape → Ready s
  pub flashing : 1 ≤ d.last_flash → Flashing s d

-- a code within the escapes, or within 00 and the flashes, that are taken
pub record Takes (d : Derived) (b : ℕ) : Type 0 where
  pub escape : 128 ≤ b → b ≤ d.last_escape
  pub flash : b < 128 → b ≤ d.last_flash

-- how far 00, a flash or an escape moves, and how many characters it sets
abbrev pub escape_by : ℕ → ℕ
escape_by b = (b / 128) * (127 - b % 128)

abbrev pub flashes_in : ℕ → ℕ
flashes_in b = cond (eqb b 0) 0 (1 - b / 128)

-- what `quick_step` says of a code; of None it says nothing
abbrev pub Quickly : State → ℕ → Option Quick → Type 0
Quickly s b (Some (quick.Set c)) = byte_effect s b ≡ Ok (Flashed c)
Quickly s b (Some (quick.At place)) = byte_effect s b ≡ Ok (Moved (with_carriage s place))
Quickly s b None = Unit {0}

-- no lead
abbrev pub NoLead : ℕ → Type 0
NoLead b = 96 ≤ b → 128 ≤ b

-- codes from one place of a stretch to another, each of which moves the carriage or sets a character of one font number
pub data Strides (tape : List ℕ) (s : State) (font : ℕ) (r : Stretch) : Stretch → Type 0 where
  stands : Strides tape s font r r
  moves : {q : Stretch} {c : Units} → Strides tape s font r q → q.next < length tape
      → byte_effect (with_carriage s q.carriage) (get_or tape q.next 0) ≡ Ok (Moved (with_carriage s c)) → NoLead (get_or tape q.next 0)
      → Strides tape s font r (record { next = q.next + 1; carriage = c; count = q.count })
  sets : {q : Stretch} {k : Character} → Strides tape s font r q → q.next < length tape
      → byte_effect (with_carriage s q.carriage) (get_or tape q.next 0) ≡ Ok (Flashed k) → k.font ≡ font
      → Strides tape s font r (record { next = q.next + 1; carriage = q.carriage; count = q.count + 1 })

-- a stretch of no codes
abbrev pub stretch_at : State → ℕ → ℕ → Stretch
stretch_at s i n = record { next = i; carriage = s.carriage; count = n }
