-- The place that the code computes is the only one that can have the target.
-- Assumes nothing.
use mathlib.Core.Path.{◌≡◌, refl, sym, ap, ◌∙◌}
use mathlib.Core.Bool.{true, false, true≢false}
use mathlib.Core.Option.{none, some}
use Prim.Native.Nat.{ℕ, ◌+◌, ◌*◌, ◌/◌, ◌%◌, ◌≤◌, ◌<◌}
use native.Mathlib.Omega.{arith}
use borrow.Author.Tests.{eq-eqb, ne_eqb, ltb-true}
use lib.IntN.{ℤ, pos, negsuc, nat_abs, ◌+ℤ◌, ◌*ℤ◌}
use lib.Signed.{lt_z, ◌≤ℤ◌}
use mir.Syntax.{w32}
use mir.Val.{SFits}
use Rattle.integers.specs.Parts.{integers, up, dn, sum_parts, dif_parts, scale_parts, abs_parts, range_parts}
use Rattle.measure.specs.Target.{x_target, entry_x}
use Rattle.measure.proofs.TargetLaws.{target_parts, target_least, target_greatest}
use Rattle.dvi_galley.specs.Target.{x_of_target, height_of_target}
use Rattle.dvi_galley.proofs.TargetLaws.{x_of_target_x_target, x_of_target_none}

-- ---- across

pub left_of_all : (t : ℤ) → lt_z t (negsuc 600746) ≡ true → x_of_target t ≡ none
left_of_all t h = x_of_target_none t (λ x l u e. omega (integers, h, target_least x l, e))

pub right_of_all : (t : ℤ) → lt_z (pos 35378517) t ≡ true → x_of_target t ≡ none
right_of_all t h = x_of_target_none t (λ x l u e. omega (integers, h, target_greatest x u, e))

module _ (t : ℤ) (low : negsuc 600746 ≤ℤ t) (high : t ≤ℤ pos 35378517) where
  abbrev pub shifted : ℤ
  shifted = (pos 3 *ℤ t) +ℤ pos 1818624

  pub thrice_fits : SFits w32 (pos 3 *ℤ t)
  thrice_fits = omega (integers, low, high, scale_parts 3 t)

  shifted_parts : (up shifted ≤ 107954175) × (dn shifted ≤ 0)
  shifted_parts =
      range_parts shifted 0 107954175 (omega (integers, low, high, scale_parts 3 t, sum_parts (pos 3 *ℤ t) (pos 1818624)))
      (omega (integers, low, high, scale_parts 3 t, sum_parts (pos 3 *ℤ t) (pos 1818624)))

  pub shifted_fits : SFits w32 shifted
  shifted_fits = omega (integers, shifted_parts)

  pub shifted_natural : dn shifted ≤ up shifted
  shifted_natural = omega (integers, shifted_parts)

  pub shifted_small : nat_abs shifted ≤ 107954175
  shifted_small = omega (integers, shifted_parts, abs_parts shifted)

  abbrev pub index : ℕ
  index = nat_abs shifted / 32768

  pub index_below : index < 3295
  index_below = omega (arith, shifted_small)

  pub index_fits : SFits w32 (pos index)
  index_fits = omega (integers, index_below)

  -- as the code makes it, by a sum
  pub index_place : (pos index +ℤ negsuc 54) ≡ entry_x index
  index_place = omega (integers, sum_parts (pos index) (negsuc 54), dif_parts (pos index) (pos 55))

  pub place_fits : SFits w32 (pos index +ℤ negsuc 54)
  place_fits = omega (integers, index_below, sum_parts (pos index) (negsuc 54))

  shifted_is : nat_abs shifted + 3 * dn t ≡ 3 * up t + 1818624
  shifted_is = omega (integers, shifted_parts, abs_parts shifted, scale_parts 3 t, sum_parts (pos 3 *ℤ t) (pos 1818624))

  nearest : (x : ℤ) → x_target x ≡ t → entry_x index ≡ x
  nearest x e =
      let k : ℕ = index in
      omega (integers, target_parts x, e, shifted_is, dif_parts (pos k) (pos 55))

  pub index_found : x_target (entry_x index) ≡ t → x_of_target t ≡ some (entry_x index)
  index_found e =
      ap x_of_target (sym e)
      ∙ x_of_target_x_target (entry_x index) (omega (integers, dif_parts (pos index) (pos 55))) (omega (integers, index_below, dif_parts (pos index) (pos 55)))

  pub index_missing : (x_target (entry_x index) ≡ t → ⊥) → x_of_target t ≡ none
  index_missing n = x_of_target_none t (λ x l u e. n (ap x_target (nearest x e) ∙ e))

-- ---- down

pub height_negative : (t : ℤ) → lt_z t (pos 0) ≡ true → none ≡ height_of_target t
unfolding height_of_target
height_negative (pos n) h = absurd (omega (arith, ltb-true n 0 h))
height_negative (negsuc n) h = refl

pub height_found : (t : ℤ) → lt_z t (pos 0) ≡ false → nat_abs t % 32768 ≡ 0 → some (pos (nat_abs t / 32768)) ≡ height_of_target t
unfolding height_of_target
height_found (pos n) h e = rw (eq-eqb (n % 32768) 0 e)
height_found (negsuc n) h e = absurd (true≢false h)

pub height_missing : (t : ℤ) → lt_z t (pos 0) ≡ false → (nat_abs t % 32768 ≡ 0 → ⊥) → none ≡ height_of_target t
unfolding height_of_target
height_missing (pos n) h e = rw (ne_eqb (n % 32768) 0 e)
height_missing (negsuc n) h e = absurd (true≢false h)
