-- The machine at work, code by code: what each code that is punched does to it.
--     code_flash                                           the code of a flash
--     rail_reach, mag_reach, tilt_reach, half_reach        a switch, where it is to stand otherwise
--     size_reach                                           a size, where it differs
--     escapes_reach, leads_reach                           the escapes and the leads of a distance
-- Assumes nothing.
use Rattle.std.specs.Prelude.{◌≡◌, Bool, true, false, cond, [], ◌∷◌, ℕ, ◌+◌, ◌-◌, ◌≤◌, ◌<◌, eqb, ℤ, pos, negsuc, neg_ℤ, nat_abs, ◌+ℤ◌, ◌-ℤ◌, Some, Ok}
use Rattle.std.proofs.Math.Path.{refl, sym, ap}
use Rattle.std.proofs.Common.{subst, ◌∙◌, arith, eqb-true}
use Rattle.integers.specs.Parts.{integers, sum_parts, neg_up, neg_dn, true_le_z}
use Rattle.integers.specs.Tables.{agree}
use Rattle.measure.specs.declared.Units.{Units}
use Rattle.measure.specs.declared.Quanta.{Quanta}
use Rattle.measure.specs.Place.{carriage_end, height_end, directed_by, carriage_at, height_at}
use Rattle.measure.specs.PlaceLaws.{InRange}
use Rattle.typesetter.specs.declared.code.Machine.TheVariants.{Eight}
use Rattle.typesetter.specs.declared.code.Code.TheVariants.{Illegal, Instructs}
use Rattle.typesetter.specs.declared.code.Instruction.TheVariants.{Flash, Size, Lead, Escape}
use Rattle.typesetter.specs.declared.machine.Modes.{Modes}
use Rattle.typesetter.specs.declared.machine.State.{State}
use Rattle.typesetter.specs.declared.machine.Effect.TheVariants.{Moved}
use Rattle.typesetter.specs.Code.{code_of}
use Rattle.typesetter.specs.Machine.{with_escape, with_lead, with_half, with_rail, with_mag, with_tilt, instruction_effect, code_effect, byte_effect}
use Rattle.typesetter.specs.StepLaws.{lead_to, escape_to, instruction_taken}
use Rattle.punch_codes.specs.Codes.{backward_to, switch_codes, size_codes, distance_codes, escapes, leads, motion_codes}
use Rattle.punch_codes.specs.Reach.{Reach, reach_none, reach_moved, reach_then}
use Rattle.punch_codes.proofs.SettingLaws.{ready, switch_reach, motion_reach}

-- ---- the codes that carry a number

code_size : (n : ℕ) → n < 15 → code_of Eight (0x50 + n) ≡ Instructs (Size n)
unfolding code_of
code_size = agree (λ n. code_of Eight (0x50 + n)) (λ n. Instructs (Size n)) Illegal 15 refl

code_escape : (n : ℕ) → n < 127 → code_of Eight (0x80 + n) ≡ Instructs (Escape (127 - n))
unfolding code_of
code_escape = agree (λ n. code_of Eight (0x80 + n)) (λ n. Instructs (Escape (127 - n))) Illegal 127 refl

code_lead : (n : ℕ) → n < 32 → code_of Eight (0x60 + n) ≡ Instructs (Lead (31 - n))
unfolding code_of
code_lead = agree (λ n. code_of Eight (0x60 + n)) (λ n. Instructs (Lead (31 - n))) Illegal 32 refl

pub code_flash : (v : ℕ) → v < 63 → code_of Eight (1 + v) ≡ Instructs (Flash (1 + v))
unfolding code_of
code_flash = agree (λ v. code_of Eight (1 + v)) (λ v. Instructs (Flash (1 + v))) Illegal 63 refl

-- ---- a place in range

carriage_at_lem : (n : ℕ) → n ≤ 3239 → carriage_at (pos n) ≡ Some (record { 0 = pos n })
unfolding carriage_at
carriage_at_lem n h = rw (true_le_z (pos 0) (pos n) (omega arith), true_le_z (pos n) (pos 3239) (omega arith))

height_at_lem : (n : ℕ) → n ≤ 1000000 → height_at (pos n) ≡ Some (record { 0 = pos n })
unfolding height_at
height_at_lem n h = rw (true_le_z (pos 0) (pos n) (omega arith), true_le_z (pos n) (pos 1000000) (omega arith))

forward : (p a : ℕ) → pos p +ℤ directed_by false a ≡ pos (p + a)
unfolding directed_by
forward p a = refl

backward : (p a : ℕ) → pos (p + a) +ℤ directed_by true a ≡ pos p
unfolding directed_by
backward p a = omega (integers, sum_parts (pos (p + a)) (neg_ℤ (pos a)), neg_up (pos a), neg_dn (pos a))

-- ---- switches and sizes

module _ (m : Modes) (n : ℕ) (c : Units) (h : Quanta) where
  pub rail_reach : (next : Bool) → Reach (ready m n c h) (switch_codes 0x41 0x42 m.upper_rail next) [] (ready (with_rail m next) n c h)
  unfolding byte_effect code_effect code_of instruction_effect
  rail_reach next = switch_reach (λ b. ready (with_rail m b) n c h) 0x41 0x42 (λ b. refl) (λ b. refl) m.upper_rail next

  pub mag_reach : (next : Bool) → Reach (ready m n c h) (switch_codes 0x44 0x43 m.upper_mag next) [] (ready (with_mag m next) n c h)
  unfolding byte_effect code_effect code_of instruction_effect
  mag_reach next = switch_reach (λ b. ready (with_mag m b) n c h) 0x44 0x43 (λ b. refl) (λ b. refl) m.upper_mag next

  pub tilt_reach : (next : Bool) → Reach (ready m n c h) (switch_codes 0x4E 0x4F m.tilt_down next) [] (ready (with_tilt m next) n c h)
  unfolding byte_effect code_effect code_of instruction_effect
  tilt_reach next = switch_reach (λ b. ready (with_tilt m b) n c h) 0x4E 0x4F (λ b. refl) (λ b. refl) m.tilt_down next

  pub half_reach : (next : Bool) → Reach (ready m n c h) (switch_codes 0x45 0x46 m.upper_half next) [] (ready (with_half m next) n c h)
  unfolding byte_effect code_effect code_of instruction_effect
  half_reach next = switch_reach (λ b. ready (with_half m b) n c h) 0x45 0x46 (λ b. refl) (λ b. refl) m.upper_half next

  escape_way_reach : (next : Bool) → Reach (ready m n c h) (switch_codes 0x47 0x48 m.escape_back next) [] (ready (with_escape m next) n c h)
  unfolding byte_effect code_effect code_of instruction_effect
  escape_way_reach next = switch_reach (λ b. ready (with_escape m b) n c h) 0x47 0x48 (λ b. refl) (λ b. refl) m.escape_back next

  lead_way_reach : (next : Bool) → Reach (ready m n c h) (switch_codes 0x4A 0x4C m.lead_back next) [] (ready (with_lead m next) n c h)
  unfolding byte_effect code_effect code_of instruction_effect
  lead_way_reach next = switch_reach (λ b. ready (with_lead m b) n c h) 0x4A 0x4C (λ b. refl) (λ b. refl) m.lead_back next

  pub size_reach : (next : ℕ) → next < 15 → Reach (ready m n c h) (size_codes n next) [] (ready m next c h)
  unfolding size_codes instruction_effect
  size_reach next l = go (eqb n next) refl
    where
      taken : byte_effect (ready m n c h) (0x50 + next) ≡ Ok (Moved (ready m next c h))
      taken = sym (instruction_taken (ready m n c h) (0x50 + next) (code_size next l) refl refl refl)

      go : (t : Bool) → eqb n next ≡ t → Reach (ready m n c h) (cond t [] ((0x50 + next) ∷ [])) [] (ready m next c h)
      go true e = subst (λ (k : ℕ). Reach (ready m n c h) [] [] (ready m k c h)) (eqb-true n next e) reach_none
      go false e = reach_moved taken

-- ---- motions

module _ (m : Modes) (n : ℕ) (h : Quanta) where
  abbrev across : Bool → ℕ → State
  across back p = ready (with_escape m back) n (record { 0 = pos p }) h

  escaped : (back : Bool) (p q a : ℕ) → 1 ≤ a → a ≤ 127 → pos p +ℤ directed_by back a ≡ pos q → q ≤ 3239 → byte_effect (across back p) (0x80 + (127 - a)) ≡ Ok (Moved (across back q))
  unfolding instruction_effect
  escaped back p q a low high to inside =
      let k : code_of Eight (0x80 + (127 - a)) ≡ Instructs (Escape a) = code_escape (127 - a) (omega arith) ∙ ap (λ (x : ℕ). Instructs (Escape x)) (omega arith) in
      sym (escape_to (across back p) a refl (ap carriage_at to ∙ carriage_at_lem q inside) ∙ instruction_taken (across back p) (0x80 + (127 - a)) k refl refl refl)

  escape_reach : (now : Bool) (p q : ℕ) → p ≤ 3239 → q ≤ 3239
      → Reach (across (backward_to now (pos p) (pos q)) p) (distance_codes 127 0x80 (nat_abs (pos q -ℤ pos p))) [] (across (backward_to now (pos p) (pos q)) q)
  escape_reach =
      motion_reach 127 0x80 3239 across (λ p a l u i. escaped false p (p + a) a l u (forward p a) i) (λ p a l u i. escaped true (p + a) p a l u (backward p a) (omega arith)) (omega arith)

module _ (m : Modes) (n : ℕ) (c : Units) where
  abbrev down : Bool → ℕ → State
  down back p = ready (with_lead m back) n c (record { 0 = pos p })

  led : (back : Bool) (p q a : ℕ) → a ≤ 31 → pos p +ℤ directed_by back a ≡ pos q → q ≤ 1000000 → byte_effect (down back p) (0x60 + (31 - a)) ≡ Ok (Moved (down back q))
  unfolding instruction_effect
  led back p q a high to inside =
      let k : code_of Eight (0x60 + (31 - a)) ≡ Instructs (Lead a) = code_lead (31 - a) (omega arith) ∙ ap (λ (x : ℕ). Instructs (Lead x)) (omega arith) in
      sym (lead_to (down back p) a (ap height_at to ∙ height_at_lem q inside) ∙ instruction_taken (down back p) (0x60 + (31 - a)) k refl refl refl)

  lead_reach : (now : Bool) (p q : ℕ) → p ≤ 1000000 → q ≤ 1000000
      → Reach (down (backward_to now (pos p) (pos q)) p) (distance_codes 31 0x60 (nat_abs (pos q -ℤ pos p))) [] (down (backward_to now (pos p) (pos q)) q)
  lead_reach =
      motion_reach 31 0x60 1000000 down (λ p a l u i. led false p (p + a) a u (forward p a) i) (λ p a l u i. led true (p + a) p a u (backward p a) (omega arith)) (omega arith)

-- ---- the same from place to place, with the direction code

module _ (m : Modes) (n : ℕ) where
  across_to_lem : (now : Bool) (y z : ℤ) (h : Quanta) → InRange carriage_end y → InRange carriage_end z
      → Reach (ready (with_escape m (backward_to now y z)) n (record { 0 = y }) h) (distance_codes 127 0x80 (nat_abs (z -ℤ y))) [] (ready (with_escape m (backward_to now y z)) n (record { 0 = z }) h)
  across_to_lem now (pos p) (pos q) h i j = escape_reach m n h now p q (omega (integers, i.high)) (omega (integers, j.high))
  across_to_lem now (pos p) (negsuc q) h i j = absurd (omega (integers, j.low))
  across_to_lem now (negsuc p) z h i j = absurd (omega (integers, i.low))

  down_to : (now : Bool) (c : Units) (y z : ℤ) → InRange height_end y → InRange height_end z
      → Reach (ready (with_lead m (backward_to now y z)) n c (record { 0 = y })) (distance_codes 31 0x60 (nat_abs (z -ℤ y))) [] (ready (with_lead m (backward_to now y z)) n c (record { 0 = z }))
  down_to now c (pos p) (pos q) i j = lead_reach m n c now p q (omega (integers, i.high)) (omega (integers, j.high))
  down_to now c (pos p) (negsuc q) i j = absurd (omega (integers, j.low))
  down_to now c (negsuc p) z i j = absurd (omega (integers, i.low))

  pub escapes_reach : (y z : ℤ) (h : Quanta) → InRange carriage_end y → InRange carriage_end z
      → Reach (ready m n (record { 0 = y }) h) (motion_codes escapes m.escape_back (backward_to m.escape_back y z) y z) [] (ready (with_escape m (backward_to m.escape_back y z)) n (record { 0 = z }) h)
  unfolding motion_codes
  escapes_reach y z h i j = reach_then (escape_way_reach m n (record { 0 = y }) h (backward_to m.escape_back y z)) (across_to_lem m.escape_back y z h i j)

  pub leads_reach : (c : Units) (y z : ℤ) → InRange height_end y → InRange height_end z
      → Reach (ready m n c (record { 0 = y })) (motion_codes leads m.lead_back (backward_to m.lead_back y z) y z) [] (ready (with_lead m (backward_to m.lead_back y z)) n c (record { 0 = z }))
  unfolding motion_codes
  leads_reach c y z i j = reach_then (lead_way_reach m n c (record { 0 = y }) (backward_to m.lead_back y z)) (down_to m.lead_back c y z i j)
