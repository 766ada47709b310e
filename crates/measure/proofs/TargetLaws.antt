-- The laws of targets: nearest to the true place, the only such number, and strictly increasing with the place.
-- Assumes nothing.
use Rattle.std.specs.Prelude.{◌≡◌, refl, ◌⊎◌, ℕ, zero, suc, ◌+◌, ◌*◌, ◌/◌, ◌≤◌, ◌<◌, ℤ, pos, negsuc, nat_abs, ◌+ℤ◌, ◌-ℤ◌, ◌*ℤ◌, ◌≤ℤ◌, ◌<ℤ◌, get_or}
use Rattle.std.proofs.Common.{ap, inl, inr, arith, SFits}
use Rattle.std.specs.Int.{w32}
use Rattle.integers.specs.Parts.{integers, up, dn, sum_parts, dif_parts, scale_parts, neg_up, neg_dn, abs_parts, abs_le_lem, parts_eq}
use Rattle.integers.specs.Tables.{table_entry}
use Rattle.measure.specs.Place.{low_end}
use Rattle.measure.specs.Target.{third, x_target, entry_x, x_targets, y_target, Near}

third_up : (n : ℤ) → up (third n) ≡ (up n + 1) / 3
third_up (pos n) = refl
third_up (negsuc n) = neg_up (pos ((suc n + 1) / 3))

third_dn : (n : ℤ) → dn (third n) ≡ (dn n + 1) / 3
third_dn (pos n) = refl
third_dn (negsuc n) = neg_dn (pos ((suc n + 1) / 3))

near : (n : ℤ) → Near n (third n)
near (pos n) =
    abs_le_lem (pos 3 *ℤ pos ((n + 1) / 3) -ℤ pos n) (omega (integers, dif_parts (pos (3 * ((n + 1) / 3))) (pos n)))
near (negsuc n) =
    let t = third (negsuc n) in
    abs_le_lem (pos 3 *ℤ t -ℤ negsuc n) (omega (integers, dif_parts (pos 3 *ℤ t) (negsuc n), scale_parts 3 t, third_up (negsuc n), third_dn (negsuc n)))

-- no other number is as near
only : (n t : ℤ) → Near n t → t ≡ third n
only (pos n) t h =
    parts_eq (omega (integers, abs_parts (pos 3 *ℤ t -ℤ pos n), dif_parts (pos 3 *ℤ t) (pos n), scale_parts 3 t))
only (negsuc n) t h =
    parts_eq (omega (integers, abs_parts (pos 3 *ℤ t -ℤ negsuc n), dif_parts (pos 3 *ℤ t) (negsuc n), scale_parts 3 t, third_up (negsuc n), third_dn (negsuc n)))

pub target_near : (x : ℤ) → Near (pos 32768 *ℤ x) (x_target x)
unfolding x_target
target_near x = near (pos 32768 *ℤ x)

pub target_only : (x t : ℤ) → Near (pos 32768 *ℤ x) t → t ≡ x_target x
unfolding x_target
target_only x t h = only (pos 32768 *ℤ x) t h

-- a number near to one is -1, 0 or 1 away
pub near_cases : (z : ℤ) → nat_abs z ≤ 1 → (z ≡ negsuc 0) ⊎ ((z ≡ pos 0) ⊎ (z ≡ pos 1))
near_cases (pos zero) h = inr (inl refl)
near_cases (pos (suc n)) h = inr (inr (ap pos (omega arith)))
near_cases (negsuc n) h = inl (ap negsuc (omega arith))

-- the target's distance from 32768 x / 3, in parts: what omega needs of a target
pub target_parts : (x : ℤ) → (3 * up (x_target x) + 32768 * dn x ≤ 3 * dn (x_target x) + 32768 * up x + 1) × (3 * dn (x_target x) + 32768 * up x ≤ 3 * up (x_target x) + 32768 * dn x + 1)
target_parts x =
    omega (integers, target_near x, abs_parts (pos 3 *ℤ x_target x -ℤ pos 32768 *ℤ x), dif_parts (pos 3 *ℤ x_target x) (pos 32768 *ℤ x), scale_parts 3 (x_target x), scale_parts 32768 x)

-- targets keep the order, so different places have different targets
pub target_increasing : (x y : ℤ) → x <ℤ y → x_target x <ℤ x_target y
target_increasing x y h = omega (integers, target_parts x, target_parts y)

pub target_injective : (x y : ℤ) → x_target x ≡ x_target y → x ≡ y
target_injective x y e = omega (integers, target_parts x, target_parts y)

pub target_least : (x : ℤ) → negsuc 54 ≤ℤ x → negsuc 600746 ≤ℤ x_target x
target_least x h = omega (integers, target_parts x)

pub target_greatest : (x : ℤ) → x ≤ℤ pos 3239 → x_target x ≤ℤ pos 35378517
target_greatest x h = omega (integers, target_parts x)

-- each entry of the table is the target of its place
pub target_entry : (k : ℕ) → k < 3295 → get_or x_targets k (pos 0) ≡ x_target (entry_x k)
unfolding x_targets
target_entry k h = table_entry (λ (k : ℕ). x_target (entry_x k)) (pos 0) 3295 k h

-- ---- moves

-- low heights are below 2 to the power 16, so their targets and the moves between them fit
pub y_parts : (h : ℤ) → up (y_target h) + 32768 * dn h ≡ 32768 * up h + dn (y_target h)
unfolding y_target
y_parts h = scale_parts 32768 h

pub x_move_fits : (x y : ℤ) → negsuc 54 ≤ℤ x → x ≤ℤ pos 3239 → negsuc 54 ≤ℤ y → y ≤ℤ pos 3239 → SFits w32 (x_target x -ℤ x_target y)
x_move_fits x y a b c d = omega (integers, target_parts x, target_parts y, dif_parts (x_target x) (x_target y))

pub y_move_fits : (h g : ℤ) → pos 0 ≤ℤ h → h ≤ℤ low_end → pos 0 ≤ℤ g → g ≤ℤ low_end → SFits w32 (y_target h -ℤ y_target g)
y_move_fits h g a b c d = omega (integers, y_parts h, y_parts g, dif_parts (y_target h) (y_target g))

-- a move from a place to a target ends at the target
pub move_ends : (from to : ℤ) → from +ℤ (to -ℤ from) ≡ to
move_ends from to = omega (integers, sum_parts from (to -ℤ from), dif_parts to from)
