-- Ranges, and where a move ends.
--     within_range, range_within     the test of a range tells it, and holds in it
--     carriage_in, height_in_lem         where a move ended is where it was to end, and in range
--     directed_fits                  a distance fits
--     reached_place, reached_none    the place that a move reached, or none
-- Assumes nothing.
use Rattle.std.specs.Prelude.{Bool, true, false, cond, ◌&&◌, ◌≡◌, refl, ℕ, ◌<◌, ℤ, pos, ◌≤ℤ◌, Some, None}
use Rattle.std.proofs.Common.{sym, ap, subst, suc-ne-zero, SFits}
use Rattle.std.specs.Int.Signed.{le_z}
use Rattle.std.specs.Int.{w32}
use Rattle.integers.specs.Parts.{integers, neg_up, neg_dn}
use Rattle.measure.specs.declared.Units.{Units}
use Rattle.measure.specs.declared.Quanta.{Quanta}
use Rattle.measure.specs.Place.{carriage_end, height_end, directed_by, within, reached, carriage_at, height_at}

pub record InRange (top z : ℤ) : Type 0 where
  pub low : pos 0 ≤ℤ z
  pub high : z ≤ℤ top

pub within_range : (top z : ℤ) → within top z ≡ true → InRange top z
within_range top z = go (le_z (pos 0) z) refl (le_z z top) refl
  where
    go : (t : Bool) → le_z (pos 0) z ≡ t → (u : Bool) → le_z z top ≡ u → (t && u) ≡ true → InRange top z
    go true p true q e = record { low = omega (integers, p); high = omega (integers, q) }
    go true p false q e = absurd (suc-ne-zero 0 cc)
    go false p u q e = absurd (suc-ne-zero 0 cc)

pub range_within : (top z : ℤ) → InRange top z → within top z ≡ true
range_within top z r =
    let low : le_z (pos 0) z ≡ true = omega (integers, r.low) in
    let high : le_z z top ≡ true = omega (integers, r.high) in
    rw (low, high)

-- what a test chose, where it was not the second
chosen : {A : Type 0} (t : Bool) (a b c : A) → (b ≡ c → ⊥) → cond t a b ≡ c → (t ≡ true) × (a ≡ c)
chosen true a b c n e = (refl, e)
chosen false a b c n e = absurd (n e)

-- where a move ended is where it was to end, and in range
pub carriage_in : (z : ℤ) (u : Units) → carriage_at z ≡ Some u → (u.0 ≡ z) × InRange carriage_end u.0
unfolding carriage_at
carriage_in z u e =
    let c = chosen (within carriage_end z) (Some (record { 0 = z })) None (Some u) (λ o. suc-ne-zero 0 cc) e in
    let q : record { 0 = z } ≡ u = let i = c.1 in cc in
    (ap (λ (v : Units). v.0) (sym q), subst (λ (v : Units). InRange carriage_end v.0) q (within_range carriage_end z c.0))

pub height_in_lem : (z : ℤ) (u : Quanta) → height_at z ≡ Some u → (u.0 ≡ z) × InRange height_end u.0
unfolding height_at
height_in_lem z u e =
    let c = chosen (within height_end z) (Some (record { 0 = z })) None (Some u) (λ o. suc-ne-zero 0 cc) e in
    let q : record { 0 = z } ≡ u = let i = c.1 in cc in
    (ap (λ (v : Quanta). v.0) (sym q), subst (λ (v : Quanta). InRange height_end v.0) q (within_range height_end z c.0))

-- a distance of a byte fits
pub directed_fits : (b : Bool) (n : ℕ) → n < 256 → SFits w32 (directed_by b n)
unfolding directed_by
directed_fits true n h = omega (integers, neg_up (pos n), neg_dn (pos n))
directed_fits false n h = omega integers

-- what a place is made of, where a move ended in the range, and where it did not
module _ {A : Type 0} (make : ℤ → A) (top z : ℤ) where
  pub reached_place : {v : ℤ} → reached top z ≡ Some v → Some (make v) ≡ cond (within top z) (Some (make z)) None
  unfolding reached
  reached_place {v} = go (within top z)
    where
      go : (t : Bool) → cond t (Some z) None ≡ Some v → Some (make v) ≡ cond t (Some (make z)) None
      go true e = let q : v ≡ z = cc in ap (λ (y : ℤ). Some (make y)) q
      go false e = absurd (suc-ne-zero 0 cc)

  pub reached_none : reached top z ≡ None → None ≡ cond (within top z) (Some (make z)) None
  unfolding reached
  reached_none = go (within top z)
    where
      go : (t : Bool) → cond t (Some z) None ≡ None → None ≡ cond t (Some (make z)) None
      go true e = absurd (suc-ne-zero 0 cc)
      go false e = refl
