-- Whether two integers are equal, as a test.
-- Assumes nothing.
use Rattle.std.specs.Prelude.{◌≡◌, refl, Bool, true, false, eqb, ℤ, pos, negsuc}
use Rattle.std.proofs.Common.{ap, eq-eqb, ne_eqb, eqb-true}
use Rattle.std.proofs.lemmas.Bool.{eqb-false}
use Rattle.integers.specs.Parts.{integers}

unfoldable pub eq_z : ℤ → ℤ → Bool
eq_z (pos a) (pos b) = eqb a b
eq_z (pos a) (negsuc b) = false
eq_z (negsuc a) (pos b) = false
eq_z (negsuc a) (negsuc b) = eqb a b

pub eq_z_true : (a b : ℤ) → eq_z a b ≡ true → a ≡ b
unfolding eq_z
eq_z_true (pos a) (pos b) e = ap pos (eqb-true a b e)
eq_z_true (pos a) (negsuc b) e = cc
eq_z_true (negsuc a) (pos b) e = cc
eq_z_true (negsuc a) (negsuc b) e = ap negsuc (eqb-true a b e)

pub eq_z_false : (a b : ℤ) → eq_z a b ≡ false → a ≡ b → ⊥
unfolding eq_z
eq_z_false (pos a) (pos b) e q = eqb-false a b e (omega integers)
eq_z_false (pos a) (negsuc b) e q = omega integers
eq_z_false (negsuc a) (pos b) e q = omega integers
eq_z_false (negsuc a) (negsuc b) e q = eqb-false a b e (omega integers)

pub true_eq_z : (a b : ℤ) → a ≡ b → eq_z a b ≡ true
unfolding eq_z
true_eq_z (pos a) (pos b) q = eq-eqb a b (omega integers)
true_eq_z (pos a) (negsuc b) q = absurd (omega integers)
true_eq_z (negsuc a) (pos b) q = absurd (omega integers)
true_eq_z (negsuc a) (negsuc b) q = eq-eqb a b (omega integers)

pub false_eq_z : (a b : ℤ) → (a ≡ b → ⊥) → eq_z a b ≡ false
unfolding eq_z
false_eq_z (pos a) (pos b) h = ne_eqb a b (λ e. h (ap pos e))
false_eq_z (pos a) (negsuc b) h = refl
false_eq_z (negsuc a) (pos b) h = refl
false_eq_z (negsuc a) (negsuc b) h = ne_eqb a b (λ e. h (ap negsuc e))
