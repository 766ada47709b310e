-- The codes of an item set just that item, and lead to the state after it.
--     carriage_range        a valid character's carriage is in its range, and height_in_range its height
--     set_sound ..          states are sound: begun_sound, after_sound
--     character_reach       the codes of a character, and cut_reach those of a cut
--     item_most             how many codes an item has at most
-- Assumes nothing.
use Rattle.std.specs.Prelude.{◌≡◌, Bool, true, false, cond, [], ◌∷◌, ◌++◌, ℕ, ◌+◌, ◌-◌, ◌/◌, ◌%◌, ◌≤◌, ◌<◌, eqb, ltb, ℤ, pos, negsuc, nat_abs, ◌+ℤ◌, ◌-ℤ◌, length, replicate, Ok}
use Rattle.std.proofs.Math.Path.{refl, sym, subst}
use Rattle.std.proofs.Common.{◌∙◌, mod-lt, div-le_self, ltb-true, ltb-false, length-append}
use native.Mathlib.Omega.{arith}
use Rattle.std.proofs.lemmas.Bool.{lt-leb}
use Rattle.std.proofs.lemmas.List.{length-replicate}
use Rattle.std.specs.Int.Signed.{le_z}
use Rattle.integers.specs.Parts.{integers, sum_parts, dif_parts, abs_le_lem}
use Rattle.integers.specs.Tables.{agree}
use Rattle.octets.specs.FieldLaws.{both}
use Rattle.measure.specs.declared.Units.{Units}
use Rattle.measure.specs.declared.Quanta.{Quanta}
use Rattle.measure.specs.Place.{carriage_end, height_end}
use Rattle.measure.specs.PlaceLaws.{InRange}
use Rattle.measure.specs.Target.{x_of}
use Rattle.galley_file.specs.declared.character.Character.{Character}
use Rattle.galley_file.specs.declared.item.Item.{Item}
use Rattle.galley_file.specs.declared.item.Item.TheVariants.{Placed, Cut}
use Rattle.galley_file.specs.Font.{font_number, font_of, size_index, is_double}
use Rattle.galley_file.specs.Character.{valid, valid_x}
use Rattle.galley_file.specs.CharacterLaws.{Valid, valid_parts, height_range}
use Rattle.galley_file.specs.Item.{valid_item}
use Rattle.typesetter.specs.declared.code.Machine.TheVariants.{Eight}
use Rattle.typesetter.specs.declared.code.Code.TheVariants.{Instructs}
use Rattle.typesetter.specs.declared.code.Instruction.TheVariants.{Flash}
use Rattle.typesetter.specs.declared.machine.Modes.{Modes}
use Rattle.typesetter.specs.declared.machine.State.{State}
use Rattle.typesetter.specs.declared.machine.Effect.TheVariants.{Flashed}
use Rattle.typesetter.specs.Code.{code_of}
use Rattle.typesetter.specs.Machine.{font_at, past_half, code_in, with_escape, with_half, with_rail, with_mag, with_tilt, escape_of, instruction_effect, code_effect, byte_effect}
use Rattle.typesetter.specs.Sound.{Sound}
use Rattle.typesetter.specs.StepLaws.{flash_set, instruction_taken}
use Rattle.tape.specs.RunLaws.{flashed, page_ended}
use Rattle.punch_codes.specs.declared.axis.Axis.{Axis}
use Rattle.punch_codes.specs.Codes.{begun, upper_rail_of, upper_mag_of, tilt_down_of, upper_half_of, flash_for, carriage_of, carriage_for, set_for, switch_codes, size_codes, remainder_codes, distance_codes, escapes, leads, motion_codes, font_codes, setting_codes, moving_codes, item_codes, state_after}
use Rattle.punch_codes.specs.Reach.{Reach, reach_moved, reach_set, reach_then}
use Rattle.punch_codes.proofs.SettingLaws.{ready}
use Rattle.punch_codes.proofs.ReadyLaws.{code_flash, rail_reach, mag_reach, tilt_reach, half_reach, size_reach, escapes_reach, leads_reach}

-- ---- a valid character's places

pub carriage_range : {top : ℤ} {c : Character} → Valid top c → InRange carriage_end (carriage_for c)
unfolding carriage_of
carriage_range {top} {c} v = go (is_double (size_index c.font)) v.across
  where
    x : ℤ
    x = c.x.0

    go : (d : Bool) → valid_x d x ≡ true → InRange carriage_end (carriage_of x d)
    go true e = let h = both (le_z (negsuc 54) x) (le_z x (pos 3184)) e in record { low = omega (integers, h.0, sum_parts x (pos 55)); high = omega (integers, h.1, sum_parts x (pos 55)) }
    go false e = let h = both (le_z (pos 0) x) (le_z x (pos 3239)) e in record { low = omega (integers, h.0); high = omega (integers, h.1) }

pub height_in_range : {top : ℤ} {c : Character} → Valid top c → InRange top c.height.0
height_in_range v = let h = height_range v in record { low = h.0; high = h.1 }

-- ---- the machine set for a character

pub set_sound : (s : State) (c : Character) → valid height_end c ≡ true → Sound (set_for s c)
unfolding set_for
set_sound s c v = let p = valid_parts v in record { carriage_in = carriage_range p; height_in_lem = height_in_range p }

pub set_small : (s : State) (c : Character) → (set_for s c).size < 15
unfolding set_for
set_small s c = mod-lt c.font (omega arith)

pub begun_sound : Sound begun
begun_sound = record { carriage_in = record { low = omega integers; high = omega integers }; height_in_lem = record { low = omega integers; high = omega integers } }

pub after_sound : (s : State) (i : Item) → valid_item height_end i ≡ true → Sound (state_after s i)
unfolding state_after
after_sound s (Placed c) v = set_sound s c v
after_sound s Cut v = record { carriage_in = record { low = omega integers; high = omega integers }; height_in_lem = record { low = omega integers; high = omega integers } }

-- ---- a flash of the machine set for a character sets it

x_is : (x : ℤ) (d : Bool) → x ≡ x_of (carriage_of x d) d
unfolding x_of carriage_of
x_is x true = omega (integers, sum_parts x (pos 55), dif_parts (x +ℤ pos 55) (pos 55))
x_is x false = refl

font_is : (n : ℕ) → n < 120 → n ≡ font_number (font_at Eight (upper_rail_of (font_of n)) (upper_mag_of (font_of n)) (tilt_down_of (font_of n))) (size_index n)
font_is = agree (λ n. n) (λ n. font_number (font_at Eight (upper_rail_of (font_of n)) (upper_mag_of (font_of n)) (tilt_down_of (font_of n))) (size_index n)) 0 120 refl

code_is : (k : ℕ) → k ≡ code_in (upper_half_of k) (flash_for k)
unfolding flash_for
code_is k = go (ltb 63 k) refl
  where
    go : (t : Bool) → ltb 63 k ≡ t → k ≡ code_in t (cond t (k - 63) k)
    go true e = omega (arith, ltb-true 63 k e)
    go false e = refl

in_half : (k : ℕ) → k < 109 → past_half (upper_half_of k) (flash_for k) ≡ false
unfolding flash_for
in_half = agree (λ k. past_half (upper_half_of k) (flash_for k)) (λ k. false) true 109 refl

flash_range : (k : ℕ) → 1 ≤ k → k ≤ 108 → (1 ≤ flash_for k) × (flash_for k ≤ 63)
unfolding flash_for
flash_range k l h = go (ltb 63 k) refl
  where
    go : (t : Bool) → ltb 63 k ≡ t → (1 ≤ cond t (k - 63) k) × (cond t (k - 63) k ≤ 63)
    go true e = omega (arith, ltb-true 63 k e)
    go false e = omega (arith, ltb-false 63 k e)

module _ (m : Modes) (n : ℕ) (u : Units) (h : Quanta) (c : Character) (v : Valid height_end c) where
  -- the machine at work, and set for c
  abbrev s : State
  s = ready m n u h

  abbrev t : State
  t = set_for s c

  -- after rail, mag, tilt and half
  abbrev m₄ : Modes
  m₄ = with_half (with_tilt (with_mag (with_rail m t.modes.upper_rail) t.modes.upper_mag) t.modes.tilt_down) t.modes.upper_half

  small : size_index c.font < 15
  small = mod-lt c.font (omega arith)

  setting_reach : Reach s (setting_codes s t) [] (ready m₄ (size_index c.font) u h)
  unfolding set_for font_codes setting_codes
  setting_reach =
      let m₁ = with_rail m t.modes.upper_rail in
      let m₂ = with_mag m₁ t.modes.upper_mag in
      let m₃ = with_tilt m₂ t.modes.tilt_down in
      reach_then
      (reach_then (rail_reach m n u h t.modes.upper_rail) (reach_then (mag_reach m₁ n u h t.modes.upper_mag) (tilt_reach m₂ n u h t.modes.tilt_down)))
      (reach_then (half_reach m₃ n u h t.modes.upper_half) (size_reach m₄ n u h (size_index c.font) small))

  moving_reach : InRange carriage_end u.0 → InRange height_end h.0 → Reach (ready m₄ (size_index c.font) u h) (moving_codes s t) [] t
  unfolding set_for moving_codes
  moving_reach i j =
      let k = size_index c.font in
      let m₅ = with_escape m₄ t.modes.escape_back in
      reach_then (escapes_reach m₄ k u.0 (carriage_for c) h i (carriage_range v)) (leads_reach m₅ k t.carriage h.0 c.height.0 j (height_in_range v))

  flash_taken : byte_effect t (flash_for c.code) ≡ Ok (Flashed c)
  unfolding set_for instruction_effect
  flash_taken =
      let k = flash_for c.code in
      let r = flash_range c.code v.first v.last in
      let e : 1 + (k - 1) ≡ k = omega arith in
      let code : code_of Eight k ≡ Instructs (Flash k) = subst (λ (b : ℕ). code_of Eight b ≡ Instructs (Flash b)) e (code_flash (k - 1) (omega arith)) in
      sym (flash_set t k refl (lt-leb _ _ small) (in_half c.code (omega (arith, v.last))) c.x c.font c.code
      (x_is c.x.0 (is_double (size_index c.font))) (font_is c.font v.font) (code_is c.code)
      ∙ instruction_taken t k code refl refl refl)

  pub character_reach : InRange carriage_end u.0 → InRange height_end h.0 → Reach s (item_codes s (Placed c)) (Placed c ∷ []) t
  unfolding item_codes
  character_reach i j = reach_then setting_reach (reach_then (moving_reach i j) (reach_set flash_taken flashed))

-- a cut, and initialize and the escape of 16 after it
pub cut_reach : (m : Modes) (n : ℕ) (u : Units) (h : Quanta) → Reach (ready m n u h) (item_codes (ready m n u h) Cut) (Cut ∷ []) (state_after (ready m n u h) Cut)
unfolding item_codes state_after code_of escape_of instruction_effect code_effect byte_effect
cut_reach m n u h = reach_then (reach_set {b = 0x4B} refl page_ended) (reach_then (reach_moved {b = 0x40} refl) (reach_moved {b = 0xEF} refl))

-- ---- at most so many codes

switch_most : (off on : ℕ) (a b : Bool) → length (switch_codes off on a b) ≤ 1
unfolding switch_codes
switch_most off on false false = omega arith
switch_most off on false true = omega arith
switch_most off on true false = omega arith
switch_most off on true true = omega arith

cond_most : (t : Bool) (b : ℕ) → length (cond t [] (b ∷ [])) ≤ 1
cond_most true b = omega arith
cond_most false b = omega arith

size_most : (m n : ℕ) → length (size_codes m n) ≤ 1
unfolding size_codes
size_most m n = cond_most (eqb m n) (0x50 + n)

distance_most : (longest code n : ℕ) → length (distance_codes longest code n) ≤ n + 1
unfolding distance_codes remainder_codes
distance_most longest code n =
    omega (arith, length-append (replicate (n / longest) code) (remainder_codes longest code (n % longest)), length-replicate (n / longest) code, div-le_self n longest, cond_most (eqb (n % longest) 0) (code + (longest - n % longest)))

apart_most : (y z : ℤ) (top : ℕ) → InRange (pos top) y → InRange (pos top) z → nat_abs (z -ℤ y) ≤ top
apart_most y z top i j = abs_le_lem (z -ℤ y) (omega (integers, dif_parts z y, i.low, i.high, j.low, j.high))

motion_most : (a : Axis) (old new : Bool) (y z : ℤ) (top : ℕ) → InRange (pos top) y → InRange (pos top) z → length (motion_codes a old new y z) ≤ top + 2
unfolding motion_codes
motion_most a old new y z top i j =
    let d = nat_abs (z -ℤ y) in
    omega (
      arith,
      length-append (switch_codes a.forward a.backward old new) (distance_codes a.longest a.code d),
      switch_most a.forward a.backward old new,
      distance_most a.longest a.code d,
      apart_most y z top i j,
    )

font_most : (m n : Modes) → length (font_codes m n) ≤ 3
unfolding font_codes
font_most m n =
    let r = switch_codes 0x41 0x42 m.upper_rail n.upper_rail in
    let g = switch_codes 0x44 0x43 m.upper_mag n.upper_mag in
    let t = switch_codes 0x4E 0x4F m.tilt_down n.tilt_down in
    omega (arith, length-append r (g ++ t), length-append g t, switch_most 0x41 0x42 m.upper_rail n.upper_rail, switch_most 0x44 0x43 m.upper_mag n.upper_mag, switch_most 0x4E 0x4F m.tilt_down n.tilt_down)

setting_most : (s t : State) → length (setting_codes s t) ≤ 5
unfolding setting_codes
setting_most s t =
    let h = switch_codes 0x45 0x46 s.modes.upper_half t.modes.upper_half in
    let z = size_codes s.size t.size in
    omega (arith, length-append (font_codes s.modes t.modes) (h ++ z), length-append h z, font_most s.modes t.modes, switch_most 0x45 0x46 s.modes.upper_half t.modes.upper_half, size_most s.size t.size)

moving_most : (s t : State) → Sound s → Sound t → length (moving_codes s t) ≤ 1003243
unfolding moving_codes
moving_most s t p q =
    let x = motion_codes escapes s.modes.escape_back t.modes.escape_back s.carriage.0 t.carriage.0 in
    let y = motion_codes leads s.modes.lead_back t.modes.lead_back s.height.0 t.height.0 in
    omega (
      arith,
      length-append x y,
      motion_most escapes s.modes.escape_back t.modes.escape_back s.carriage.0 t.carriage.0 3239 p.carriage_in q.carriage_in,
      motion_most leads s.modes.lead_back t.modes.lead_back s.height.0 t.height.0 1000000 p.height_in_lem q.height_in_lem,
    )

-- far more than there can be, and far less than a count holds
pub item_most : (s : State) (i : Item) → Sound s → valid_item height_end i ≡ true → length (item_codes s i) ≤ 1100000
unfolding item_codes
item_most s (Placed c) p v =
    let t = set_for s c in
    let f = flash_for c.code ∷ [] in
    omega (arith, length-append (setting_codes s t) (moving_codes s t ++ f), length-append (moving_codes s t) f, setting_most s t, moving_most s t p (set_sound s c v))
item_most s Cut p v = omega arith
