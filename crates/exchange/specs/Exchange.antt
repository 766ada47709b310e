-- Codes that may change places (document 02, "Order on the tape").
--     Mode             what rail, mag, tilt and half are, and the two directions
--     turn             the instruction that sets a mode
--     Switch           a switch of a machine
--     switch_code       its code
--     Setting          a code that only sets a mode or the size
--     Commuting        two instructions of which either may come first
--     Exchangeable     two codes of a machine that may change places
--     Reordered        two tapes that differ by exchanges of neighbours
--     Accepted         the tape is accepted, with this galley
use Rattle.std.specs.Prelude.{ℕ, Bool, true, false, List, ◌∷◌, ◌++◌, ◌≡◌}
use Rattle.octets.specs.Answer.{written}
use Rattle.typesetter.specs.declared.code.Machine.{Machine}
use Rattle.typesetter.specs.declared.code.Machine.TheVariants.{Eight}
use Rattle.typesetter.specs.declared.code.Instruction.{Instruction}
use Rattle.typesetter.specs.declared.code.Instruction.TheVariants.{Rail, Mag, Tilt, Half, EscapeWay, LeadWay, Size, Lead, Escape}
use Rattle.typesetter.specs.declared.code.Code.TheVariants.{Ignored, Instructs}
use Rattle.typesetter.specs.Code.{code_of}
use Rattle.tape.specs.Tape.{tape_result}

pub data Mode : Type 0 where
  rail mag tilt half escapeWay leadWay : Mode

-- upper, for the tilt down, for a direction backward
abbrev pub turn : Mode → Bool → Instruction
turn rail up = Rail up
turn mag up = Mag up
turn tilt down = Tilt down
turn half up = Half up
turn escapeWay back = EscapeWay back
turn leadWay back = LeadWay back

-- the switches of a machine: that of 4 fonts has no tilt
pub data Switch : Machine → Mode → Type 0 where
  rail_switch : {machine : Machine} → Switch machine rail
  mag_switch : {machine : Machine} → Switch machine mag
  half_switch : {machine : Machine} → Switch machine half
  tilt_switch : Switch Eight tilt

-- the code of each switch (document 01, "Tape codes")
abbrev pub switch_code : {machine : Machine} {m : Mode} → Switch machine m → Bool → ℕ
switch_code rail_switch false = 0x41
switch_code rail_switch true = 0x42
switch_code mag_switch true = 0x43
switch_code mag_switch false = 0x44
switch_code half_switch false = 0x45
switch_code half_switch true = 0x46
switch_code tilt_switch false = 0x4E
switch_code tilt_switch true = 0x4F

-- a code that only sets something: a mode, or the size
pub data Setting : Type 0 where
  moded : Mode → Bool → Setting
  sized : ℕ → Setting

abbrev pub setting_instruction : Setting → Instruction
setting_instruction (moded m b) = turn m b
setting_instruction (sized n) = Size n

-- of two different things
abbrev pub Different : Setting → Setting → Type 0
Different (moded m b) (moded n c) = m ≡ n → ⊥
Different (moded m b) (sized n) = Unit {0}
Different (sized n) (moded m b) = Unit {0}
Different (sized n) (sized k) = ⊥

-- of another thing than this mode
abbrev pub Beside : Mode → Setting → Type 0
Beside w (moded m b) = m ≡ w → ⊥
Beside w (sized n) = Unit {0}

-- "one an escape and one a lead"; "codes of two different switches" are settings of different modes. Further: any two settings of different
-- things, and an escape or a lead with a setting of anything but its direction
pub data Commuting : Instruction → Instruction → Type 0 where
  escape_lead : {n k : ℕ} → Commuting (Escape n) (Lead k)
  settings : (x y : Setting) → Different x y → Commuting (setting_instruction x) (setting_instruction y)
  escape_setting : {n : ℕ} (x : Setting) → Beside escapeWay x → Commuting (Escape n) (setting_instruction x)
  lead_setting : {n : ℕ} (x : Setting) → Beside leadWay x → Commuting (Lead n) (setting_instruction x)
  either : {o p : Instruction} → Commuting o p → Commuting p o

-- by the machine's table of codes; a 4-font machine has no tilt. A 00 does nothing and may stand on either side of any code
pub data Exchangeable (machine : Machine) (a b : ℕ) : Type 0 where
  instructions : {o p : Instruction} → code_of machine a ≡ Instructs o → code_of machine b ≡ Instructs p → Commuting o p → Exchangeable machine a b
  ignored_first : code_of machine a ≡ Ignored → Exchangeable machine a b
  ignored_second : code_of machine b ≡ Ignored → Exchangeable machine a b

-- any number of exchanges
pub data Reordered (machine : Machine) : List ℕ → List ℕ → Type 0 where
  unchanged : {xs : List ℕ} → Reordered machine xs xs
  exchanged : {a b : ℕ} (xs ys : List ℕ) → Exchangeable machine a b → Reordered machine (xs ++ (a ∷ (b ∷ ys))) (xs ++ (b ∷ (a ∷ ys)))
  further : {xs ys zs : List ℕ} → Reordered machine xs ys → Reordered machine ys zs → Reordered machine xs zs

abbrev pub Accepted : List ℕ → ℕ → ℕ → List ℕ → Type 0
Accepted tape machine room galley = tape_result tape machine room ≡ written galley
