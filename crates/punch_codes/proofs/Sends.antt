-- What is sent, by what led to it.
-- Assumes nothing.
use mathlib.Core.Path.{◌≡◌, refl}
use mathlib.Core.Bool.{Bool, true, false, beq}
use mathlib.Core.List.{[], ◌∷◌}
use Prim.Native.Nat.{ℕ, ◌+◌, ◌-◌, ◌<◌}
use native.Mathlib.Nat.{div-eq_of_lt, mod-eq_of_lt}
use native.Mathlib.Omega.{arith}
use borrow.Author.Tests.{eq-eqb, ne_eqb}
use lib.IntN.{ℤ, pos, negsuc, nat_abs, ◌-ℤ◌}
use Rattle.integers.specs.Parts.{up, dn, dif_parts}
use Rattle.punch_codes.specs.Codes.{switch_codes, size_codes, remainder_codes, distance_codes}

-- ---- nothing, or one code

module _ (off on : ℕ) where
  pub switch_none : (old new : Bool) → beq old new ≡ true → switch_codes off on old new ≡ []
  unfolding switch_codes
  switch_none false false e = refl
  switch_none false true e = cc
  switch_none true false e = cc
  switch_none true true e = refl

  pub switch_on : (old new : Bool) → beq old new ≡ false → new ≡ true → switch_codes off on old new ≡ on ∷ []
  unfolding switch_codes
  switch_on false true d e = refl
  switch_on true true d e = cc
  switch_on false false d e = cc
  switch_on true false d e = cc

  pub switch_off : (old new : Bool) → beq old new ≡ false → new ≡ false → switch_codes off on old new ≡ off ∷ []
  unfolding switch_codes
  switch_off true false d e = refl
  switch_off false false d e = cc
  switch_off false true d e = cc
  switch_off true true d e = cc

module _ (old new : ℕ) where
  pub size_none : old ≡ new → size_codes old new ≡ []
  unfolding size_codes
  size_none e = rw (eq-eqb old new e)

  pub size_one : (old ≡ new → ⊥) → size_codes old new ≡ (0x50 + new) ∷ []
  unfolding size_codes
  size_one e = rw (ne_eqb old new e)

module _ (longest code n : ℕ) where
  pub remainder_none : n ≡ 0 → remainder_codes longest code n ≡ []
  unfolding remainder_codes
  remainder_none e = rw (eq-eqb n 0 e)

  pub remainder_one : (n ≡ 0 → ⊥) → remainder_codes longest code n ≡ (code + (longest - n)) ∷ []
  unfolding remainder_codes
  remainder_one e = rw (ne_eqb n 0 e)

module _ (longest code n : ℕ) where
  -- less than the longest motion
  pub distance_short : n < longest → distance_codes longest code n ≡ remainder_codes longest code n
  unfolding distance_codes
  distance_short h = rw (div-eq_of_lt h, mod-eq_of_lt h)

-- ---- a distance is the same from either end

same_size : (y z : ℤ) → up y + up z ≡ dn y + dn z → nat_abs y ≡ nat_abs z
same_size (pos a) (pos b) e = omega arith
same_size (pos a) (negsuc b) e = omega arith
same_size (negsuc a) (pos b) e = omega arith
same_size (negsuc a) (negsuc b) e = absurd (omega arith)

pub either_end : (a b : ℤ) → nat_abs (a -ℤ b) ≡ nat_abs (b -ℤ a)
either_end a b = same_size (a -ℤ b) (b -ℤ a) (omega (arith, dif_parts a b, dif_parts b a))
