-- What the codes sent do to the machine: each leads from the state that it is sent in to the one that it is sent for.
--     ready            the machine at work
--     switch_reach     a switch, and size_reach a size
--     motion_reach     a motion along one of the two ways
-- Assumes nothing.
use Rattle.std.specs.Prelude.{◌≡◌, Bool, cond, ltb, ℤ, negsuc, Ok, ◌-ℤ◌, replicate}
use Rattle.std.proofs.Math.Path.{refl, subst}
use Rattle.std.proofs.Common.{◌∙◌, suc-mul, arith, ne_eqb, ltb-true, ltb-false}
use Rattle.std.proofs.Math.Bool.{true, false}
use mathlib.Core.List.{[], ◌∷◌, ◌++◌}
use Prim.Native.Nat.{ℕ, zero, suc, ◌+◌, ◌-◌, ◌*◌, ◌/◌, ◌%◌, ◌≤◌}
use Rattle.std.proofs.Math.Nat.{div-add-mod', mod-lt, zero-div, zero-mod}
use Rattle.std.proofs.Math.IntN.{pos, nat_abs}
use Rattle.integers.specs.Parts.{dif_parts, up, dn}
use Rattle.measure.specs.declared.Units.{Units}
use Rattle.measure.specs.declared.Quanta.{Quanta}
use Rattle.typesetter.specs.declared.code.Machine.TheVariants.{Eight}
use Rattle.typesetter.specs.declared.machine.Modes.{Modes}
use Rattle.typesetter.specs.declared.machine.State.{State}
use Rattle.typesetter.specs.declared.machine.Effect.TheVariants.{Moved}
use Rattle.typesetter.specs.Machine.{byte_effect}
use Rattle.punch_codes.specs.Codes.{backward_to, switch_codes, remainder_codes, distance_codes}
use Rattle.punch_codes.specs.Reach.{Reach, reach_none, reach_moved, reach_then}

-- initialized, off the switch, neither stopped nor after a cut
abbrev pub ready : Modes → ℕ → Units → Quanta → State
ready m n c h = record { machine = Eight; initialized = true; parked = false; stopped = false; cut = false; modes = m; size = n; carriage = c; height = h }

-- ---- switches

module _ (st : Bool → State) (off on : ℕ) (to-off : (b : Bool) → byte_effect (st b) off ≡ Ok (Moved (st false))) (to-on : (b : Bool) → byte_effect (st b) on ≡ Ok (Moved (st true))) where
  pub switch_reach : (now next : Bool) → Reach (st now) (switch_codes off on now next) [] (st next)
  unfolding switch_codes
  switch_reach false false = reach_none
  switch_reach false true = reach_moved (to-on false)
  switch_reach true false = reach_moved (to-off true)
  switch_reach true true = reach_none

-- ---- motions

pub distance_is : (z : ℤ) (p q : ℕ) → up z + p ≡ q + dn z → (q ≤ p → nat_abs z ≡ p - q) × (p ≤ q → nat_abs z ≡ q - p)
distance_is (pos n) p q e = (λ h. omega arith, λ h. omega arith)
distance_is (negsuc n) p q e = (λ h. omega arith, λ h. omega arith)

pub apart : (p q : ℕ) → (q ≤ p → nat_abs (pos q -ℤ pos p) ≡ p - q) × (p ≤ q → nat_abs (pos q -ℤ pos p) ≡ q - p)
apart p q = distance_is (pos q -ℤ pos p) p q (omega (arith, dif_parts (pos q) (pos p)))

-- what a code does to a machine whose direction and place are these
module _ (longest code top : ℕ) (st : Bool → ℕ → State)
    (ahead : (p a : ℕ) → 1 ≤ a → a ≤ longest → p + a ≤ top → byte_effect (st false p) (code + (longest - a)) ≡ Ok (Moved (st false (p + a))))
    (behind : (p a : ℕ) → 1 ≤ a → a ≤ longest → p + a ≤ top → byte_effect (st true (p + a)) (code + (longest - a)) ≡ Ok (Moved (st true p)))
    (some-way : 1 ≤ longest) where
  full : code + (longest - longest) ≡ code
  full = omega arith

  -- k of the longest motions
  runs_ahead : (k p : ℕ) → p + k * longest ≤ top → Reach (st false p) (replicate k code) [] (st false (p + k * longest))
  runs_ahead zero p h = subst (λ (n : ℕ). Reach (st false p) [] [] (st false n)) (omega arith) reach_none
  runs_ahead (suc k) p h =
      let e = suc-mul k longest in
      let one = reach_moved (subst (λ (b : ℕ). byte_effect (st false p) b ≡ Ok (Moved (st false (p + longest)))) full (ahead p longest some-way (omega arith) (omega arith))) in
      let more = runs_ahead k (p + longest) (omega arith) in
      subst (λ (n : ℕ). Reach (st false p) (code ∷ replicate k code) [] (st false n)) (omega arith) (reach_then one more)

  runs_behind : (k p : ℕ) → p + k * longest ≤ top → Reach (st true (p + k * longest)) (replicate k code) [] (st true p)
  runs_behind zero p h = subst (λ (n : ℕ). Reach (st true n) [] [] (st true p)) (omega arith) reach_none
  runs_behind (suc k) p h =
      let e = suc-mul k longest in
      let one = reach_moved (subst (λ (b : ℕ). byte_effect (st true ((p + k * longest) + longest)) b ≡ Ok (Moved (st true (p + k * longest)))) full (behind (p + k * longest) longest some-way (omega arith) (omega arith))) in
      let more = runs_behind k p (omega arith) in
      subst (λ (n : ℕ). Reach (st true n) (code ∷ replicate k code) [] (st true p)) (omega arith) (reach_then one more)

  -- and the remainder
  rest_ahead : (r p : ℕ) → r ≤ longest → p + r ≤ top → Reach (st false p) (remainder_codes longest code r) [] (st false (p + r))
  unfolding remainder_codes
  rest_ahead zero p h l = subst (λ (n : ℕ). Reach (st false p) [] [] (st false n)) (omega arith) reach_none
  rest_ahead (suc r) p h l = rw (ne_eqb (suc r) 0 (λ e. omega arith)) (reach_moved (ahead p (suc r) (omega arith) h l))

  rest_behind : (r p : ℕ) → r ≤ longest → p + r ≤ top → Reach (st true (p + r)) (remainder_codes longest code r) [] (st true p)
  unfolding remainder_codes
  rest_behind zero p h l = subst (λ (n : ℕ). Reach (st true n) [] [] (st true p)) (omega arith) reach_none
  rest_behind (suc r) p h l = rw (ne_eqb (suc r) 0 (λ e. omega arith)) (reach_moved (behind p (suc r) (omega arith) h l))

  distance_ahead : (n p : ℕ) → p + n ≤ top → Reach (st false p) (distance_codes longest code n) [] (st false (p + n))
  unfolding distance_codes
  distance_ahead n p h =
      let d = div-add-mod' n longest in
      let l = mod-lt n some-way in
      subst (λ (q : ℕ). Reach (st false p) (replicate (n / longest) code ++ remainder_codes longest code (n % longest)) [] (st false q)) (omega arith)
      (reach_then (runs_ahead (n / longest) p (omega arith)) (rest_ahead (n % longest) (p + n / longest * longest) (omega arith) (omega arith)))

  distance_behind : (n p : ℕ) → p + n ≤ top → Reach (st true (p + n)) (distance_codes longest code n) [] (st true p)
  unfolding distance_codes
  distance_behind n p h =
      let d = div-add-mod' n longest in
      let l = mod-lt n some-way in
      subst (λ (q : ℕ). Reach (st true q) (replicate (n / longest) code ++ remainder_codes longest code (n % longest)) [] (st true p)) (omega arith)
      (reach_then (runs_behind (n / longest) (p + n % longest) (omega arith)) (rest_behind (n % longest) p (omega arith) (omega arith)))

  -- no distance, no code
  none_reach : {s : State} → Reach s (distance_codes longest code 0) [] s
  unfolding distance_codes remainder_codes
  none_reach = rw (zero-div longest, zero-mod longest) reach_none

  -- from one place to another, in the direction that this takes
  pub motion_reach : (now : Bool) (p q : ℕ) → p ≤ top → q ≤ top → Reach (st (backward_to now (pos p) (pos q)) p) (distance_codes longest code (nat_abs (pos q -ℤ pos p))) [] (st (backward_to now (pos p) (pos q)) q)
  unfolding backward_to
  motion_reach now p q hp hq = go (ltb q p) refl (ltb p q) refl
    where
      d : ℕ
      d = nat_abs (pos q -ℤ pos p)

      go : (t : Bool) → ltb q p ≡ t → (u : Bool) → ltb p q ≡ u → Reach (st (cond t true (cond u false now)) p) (distance_codes longest code d) [] (st (cond t true (cond u false now)) q)
      go true l u m =
          let h = ltb-true q p l in
          let e = (apart p q).0 (omega arith) in
          subst (λ (n : ℕ). Reach (st true n) (distance_codes longest code d) [] (st true q)) (omega arith) (distance_behind d q (omega arith))
      go false l true m =
          let h = ltb-true p q m in
          let e = (apart p q).1 (omega arith) in
          subst (λ (n : ℕ). Reach (st false p) (distance_codes longest code d) [] (st false n)) (omega arith) (distance_ahead d p (omega arith))
      go false l false m =
          let same : p ≡ q = omega (arith, ltb-false q p l, ltb-false p q m) in
          let e : d ≡ 0 = (apart p q).0 (omega arith) ∙ omega arith in
          subst (λ (n : ℕ). Reach (st now p) (distance_codes longest code d) [] (st now n)) same (rw e none_reach)
