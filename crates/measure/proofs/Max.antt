-- `max` of two places is the larger of their numbers.
-- Assumes nothing.
use Rattle.std.specs.Prelude.{◌≡◌, refl, Bool, true, false, cond, ℤ}
use Rattle.std.specs.Int.Signed.{lt_z}
use Rattle.std.specs.Ordering.{int_cmp, is_lt}
use Rattle.std.specs.declared.cmp.Ordering.TheVariants.{Less, Equal, Greater}
use Rattle.integers.specs.Parts.{integers, max_z, max_left, max_right}

module _ {X : Type 0} (number : X → ℤ) (a b : X) where
  pub max_number : number (cond (is_lt (int_cmp (number b) (number a))) a b) ≡ max_z (number a) (number b)
  max_number = go (lt_z (number b) (number a)) refl (lt_z (number a) (number b)) refl
    where
      go : (t : Bool) → lt_z (number b) (number a) ≡ t → (u : Bool) → lt_z (number a) (number b) ≡ u
          → number (cond (is_lt (cond t Less (cond u Greater Equal))) a b) ≡ max_z (number a) (number b)
      go true p true q = omega (integers, p, q)
      go true p false q = rw (max_left _ _ q)
      go false p true q = rw (max_right _ _ q)
      go false p false q = rw (max_left _ _ q) (omega (integers, p, q))
