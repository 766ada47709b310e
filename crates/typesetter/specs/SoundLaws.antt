-- Every step from a sound state leaves a sound state or sets a valid character.
--     start_sound                       the state before the first code is sound
--     stays_sound, page_ended_sound     a sound state again
--     flashed_valid                     a valid character
--     font_range                        the font in force is 1 to 8
-- Assumes nothing.
use Rattle.std.specs.Prelude.{◌≡◌, refl, Bool, true, false, cond, List, [], ◌∷◌, ℕ, zero, suc, ◌-◌, ◌%◌, ◌≤◌, ◌<◌, ltb, eqb, ℤ, pos, negsuc, ◌+ℤ◌, ◌-ℤ◌, get_or, Ok, Err}
use Rattle.std.proofs.Common.{ap, ◌∙◌, arith, ltb-true, ltb-false, lit≤}
use Rattle.std.proofs.lemmas.Bool.{eqb-false}
use Rattle.integers.specs.Parts.{integers, dif_parts, true_le_z}
use Rattle.measure.specs.Place.{carriage_end, height_end, directed_by, within}
use Rattle.measure.specs.PlaceLaws.{InRange, height_in_lem}
use Rattle.measure.specs.Target.{x_of}
use Rattle.galley_file.specs.declared.character.Character.{Character}
use Rattle.galley_file.specs.Font.{font_number, size_index, is_double}
use Rattle.galley_file.specs.Character.{valid_x, valid}
use Rattle.galley_file.specs.CharacterLaws.{parts_valid}
use Rattle.typesetter.specs.declared.code.Machine.{Machine}
use Rattle.typesetter.specs.declared.code.Machine.TheVariants.{Four, Eight}
use Rattle.typesetter.specs.declared.code.Instruction.{Instruction}
use Rattle.typesetter.specs.declared.code.Instruction.TheVariants.{Flash, Rail, Mag, Half, EscapeWay, LeadWay, Tilt, Size, Stop, Cut, Lead, Escape}
use Rattle.typesetter.specs.declared.code.Code.{Code}
use Rattle.typesetter.specs.declared.code.Code.TheVariants.{Ignored, Illegal, Initialize, Instructs}
use Rattle.typesetter.specs.declared.machine.State.{State}
use Rattle.typesetter.specs.declared.machine.Effect.TheVariants.{Moved, Flashed, PageEnded}
use Rattle.typesetter.specs.Code.{tilt_of, code_of, controls}
use Rattle.typesetter.specs.Machine.{Step, start, pair_of, font_at, font_in, past_half, code_in, character_in, byte_effect}
use Rattle.typesetter.specs.EffectLaws.{Causes, refuses, ignores, initializes, flashes, turns, sizes, stops, cuts, leads, escapes, causes, at_origin}
use Rattle.typesetter.specs.Sound.{Sound}

-- ---- a flash is of 1 to 63

abbrev Flashes : Instruction → Type 0
Flashes (Flash v) = (1 ≤ v) × (v ≤ 63)
Flashes (Rail up) = Unit {0}
Flashes (Mag up) = Unit {0}
Flashes (Half up) = Unit {0}
Flashes (EscapeWay back) = Unit {0}
Flashes (LeadWay back) = Unit {0}
Flashes (Tilt down) = Unit {0}
Flashes (Size index) = Unit {0}
Flashes Stop = Unit {0}
Flashes Cut = Unit {0}
Flashes (Lead n) = Unit {0}
Flashes (Escape n) = Unit {0}

abbrev Fine : Code → Type 0
Fine Ignored = Unit {0}
Fine Illegal = Unit {0}
Fine Initialize = Unit {0}
Fine (Instructs o) = Flashes o

fine_cond : (t : Bool) (x y : Code) → (t ≡ true → Fine x) → (t ≡ false → Fine y) → Fine (cond t x y)
fine_cond true x y f g = f refl
fine_cond false x y f g = g refl

abbrev AllFine : List Code → Type 0
AllFine [] = Unit {0}
AllFine (k ∷ ks) = Fine k × AllFine ks

fine_at : (ks : List Code) → AllFine ks → (i : ℕ) → Fine (get_or ks i Illegal)
fine_at [] f i = tt
fine_at (k ∷ ks) f zero = f.0
fine_at (k ∷ ks) f (suc i) = fine_at ks f.1 i

fine_tilt : (machine : Machine) (down : Bool) → Fine (tilt_of machine down)
fine_tilt Four down = tt
fine_tilt Eight down = tt

fine_code : (machine : Machine) (b : ℕ) → Fine (code_of machine b)
unfolding code_of
fine_code machine b =
    let f = cond (ltb b 0xFF) (Instructs (Escape (127 - b % 128))) Illegal in
    let e = cond (ltb b 0x80) (Instructs (Lead (31 - b % 32))) f in
    let d = cond (ltb b 0x60) Illegal e in
    let c = cond (ltb b 0x5F) (Instructs (Size (b - 0x50))) d in
    let a = cond (ltb b 0x50) (get_or (controls machine) (b - 0x40) Illegal) c in
    fine_cond (eqb b 0x00) Ignored (cond (ltb b 0x40) (Instructs (Flash b)) a) (λ _. tt) (λ z.
    fine_cond (ltb b 0x40) (Instructs (Flash b)) a
    (λ l. let ne = eqb-false b 0 z in let lt = ltb-true b 0x40 l in (omega arith, omega arith)) (λ _.
    fine_cond (ltb b 0x50) (get_or (controls machine) (b - 0x40) Illegal) c
    (λ _. fine_at (controls machine) (tt, (tt, (tt, (tt, (tt, (tt, (tt, (tt, (tt, (tt, (tt, (tt, (tt, (tt, (fine_tilt machine false, (fine_tilt machine true, tt)))))))))))))))) (b - 0x40)) (λ _.
    fine_cond (ltb b 0x5F) (Instructs (Size (b - 0x50))) d (λ _. tt) (λ _.
    fine_cond (ltb b 0x60) Illegal e (λ _. tt) (λ _.
    fine_cond (ltb b 0x80) (Instructs (Lead (31 - b % 32))) f (λ _. tt) (λ _.
    fine_cond (ltb b 0xFF) (Instructs (Escape (127 - b % 128))) Illegal (λ _. tt) (λ _. tt)))))))

-- ---- a flash that is taken sets a valid character

pair_range : (rail mag : Bool) → pair_of rail mag ≤ 3
pair_range false false = lit≤ tt
pair_range true false = lit≤ tt
pair_range false true = lit≤ tt
pair_range true true = lit≤ tt

pub font_range : (machine : Machine) (rail mag tilt : Bool) → (1 ≤ font_at machine rail mag tilt) × (font_at machine rail mag tilt ≤ 8)
font_range Four rail mag tilt = let p = pair_range rail mag in (omega arith, omega arith)
font_range Eight rail mag false = let p = pair_range rail mag in (omega arith, omega arith)
font_range Eight rail mag true = let p = pair_range rail mag in (omega arith, omega arith)

code_range : (up : Bool) (v : ℕ) → (1 ≤ v) × (v ≤ 63) → past_half up v ≡ false → (1 ≤ code_in up v) × (code_in up v ≤ 108)
code_range false v r e = (r.0, omega arith)
code_range true v r e = let l = ltb-false 45 v e in (omega arith, omega arith)

-- the carriage is in range, so x is valid in its size
across : (d : Bool) (z : ℤ) → InRange carriage_end z → valid_x d (x_of z d) ≡ true
unfolding x_of
across false z r = rw (true_le_z (pos 0) z (omega (integers, r.low)), true_le_z z (pos 3239) (omega (integers, r.high)))
across true z r =
    let p = dif_parts z (pos 55) in
    rw (true_le_z (negsuc 54) (z -ℤ pos 55) (omega (integers, r.low)), true_le_z (z -ℤ pos 55) (pos 3184) (omega (integers, r.high)))

in_range_within : (end z : ℤ) → InRange end z → within end z ≡ true
in_range_within end z r = rw (true_le_z (pos 0) z (omega (integers, r.low)), true_le_z z end (omega (integers, r.high)))

set_valid : (s : State) → Sound s → (v : ℕ) → (1 ≤ v) × (v ≤ 63) → s.size < 15 → past_half s.modes.upper_half v ≡ false → valid height_end (character_in s v) ≡ true
set_valid s r v fv z a =
    let m = s.modes in
    let f = font_range s.machine m.upper_rail m.upper_mag m.tilt_down in
    let c = code_range m.upper_half v fv a in
    let index : size_index (font_number (font_in s.machine m) s.size) ≡ s.size = omega arith in
    parts_valid (record {
      font = omega (arith, f);
      first = c.0;
      last = c.1;
      across = ap (λ (i : ℕ). valid_x (is_double i) (x_of s.carriage.0 (is_double s.size))) index ∙ across (is_double s.size) s.carriage.0 r.carriage_in;
      height = in_range_within height_end s.height.0 r.height_in_lem;
    })

-- ---- effects

-- the state left is sound, the character set is valid
abbrev Good : Step → Type 0
Good (Ok (Moved t)) = Sound t
Good (Ok (Flashed c)) = valid height_end c ≡ true
Good (Ok (PageEnded t)) = Sound t
Good (Err r) = Unit {0}

module _ (s : State) (r : Sound s) where
  -- the same carriage and height
  same : (t : State) → t.carriage ≡ s.carriage → t.height ≡ s.height → Sound t
  same t c h = record { carriage_in = rw c r.carriage_in; height_in_lem = rw h r.height_in_lem }

  at_top : InRange height_end (pos 0)
  at_top = record { low = omega integers; high = omega integers }

  good_by : {k : Code} {x : Step} → Fine k → Causes s k x → Good x
  good_by f (refuses h) = tt
  good_by f ignores = r
  good_by f initializes = record { carriage_in = at_origin; height_in_lem = r.height_in_lem }
  good_by f (flashes {v} z a) = set_valid s r v f z a
  good_by f (turns t) = same _ refl refl
  good_by f sizes = same _ refl refl
  good_by f (stops p) = same _ refl refl
  good_by f (cuts p) = record { carriage_in = r.carriage_in; height_in_lem = at_top }
  good_by f (leads {n} {h} p e) = record { carriage_in = r.carriage_in; height_in_lem = (height_in_lem (s.height.0 +ℤ directed_by s.modes.lead_back n) h e).1 }
  good_by f (escapes c) = record { carriage_in = c; height_in_lem = r.height_in_lem }

  good : (b : ℕ) {x : Step} → byte_effect s b ≡ x → Good x
  good b e = good_by (fine_code s.machine b) (causes s b e)

  pub stays_sound : (b : ℕ) {t : State} → byte_effect s b ≡ Ok (Moved t) → Sound t
  stays_sound b e = good b e

  pub page_ended_sound : (b : ℕ) {t : State} → byte_effect s b ≡ Ok (PageEnded t) → Sound t
  page_ended_sound b e = good b e

  pub flashed_valid : (b : ℕ) {c : Character} → byte_effect s b ≡ Ok (Flashed c) → valid height_end c ≡ true
  flashed_valid b e = good b e

pub start_sound : (machine : Machine) → Sound (start machine)
start_sound machine =
    record { carriage_in = record { low = omega integers; high = omega integers }; height_in_lem = record { low = omega integers; high = omega integers } }
