-- What a conversion to 32 bits answers is `reach` of the number.
-- Assumes nothing.
use Rattle.std.specs.Prelude.{◌≡◌, refl, Bool, true, false, ◌&&◌, ℤ, pos, negsuc, Some, None, Result, Ok, Err}
use Rattle.std.proofs.Common.{ap, suc-ne-zero, SFits}
use Rattle.std.specs.Int.Signed.{le_z}
use Rattle.std.specs.Int.{w32}
use Rattle.std.specs.Result.{OkIff, result_ok}
use Rattle.integers.specs.Parts.{integers}
use Rattle.octets.specs.Octets.{fits32}
use Rattle.octets.specs.Reach.{reach_if, reach}
use Rattle.octets.specs.WordLaws.{true_fits32}

both_true : (a b : Bool) → (a && b) ≡ true → (a ≡ true) × (b ≡ true)
both_true true b e = (refl, e)
both_true false b e = absurd (suc-ne-zero 0 cc)

fits_true : (z : ℤ) → fits32 z ≡ true → SFits w32 z
unfolding fits32
fits_true z e =
    let h = both_true (le_z (negsuc 2147483647) z) (le_z z (pos 2147483647)) e in
    let low = h.0 in
    let high = h.1 in
    omega (integers, low, high)

pub converted : {E : Type 0} (r : Result ℤ E) (z : ℤ) → OkIff r (SFits w32 z) z → result_ok r ≡ reach z
unfolding reach
converted (Ok v) z h = rw (true_fits32 z h.0) (ap Some h.1)
converted (Err e) z h = go (fits32 z) refl
  where
    go : (b : Bool) → fits32 z ≡ b → None ≡ reach_if b z
    go true q = absurd (h (fits_true z q))
    go false q = refl
