-- A target is of one place only: what is found has it, and what has it is found.
--     x_of_target_x_target, height_of_target_y_target     what has it is found
--     x_target_x_of_target, y_target_height_of_target     what is found has it
--     x_of_target_none                                where no x of the table has it, none is found
-- Assumes nothing.
use Rattle.std.specs.Prelude.{◌≡◌, refl, ◌⊎◌, Bool, true, false, cond, ℕ, zero, suc, ◌*◌, ◌/◌, ◌%◌, eqb, ℤ, pos, negsuc, ◌+ℤ◌, ◌*ℤ◌, ◌≤ℤ◌, ◌<ℤ◌}
use Rattle.std.proofs.Common.{sym, ap, ◌∙◌, inl, inr, arith, eq-eqb, eqb-true}
use Rattle.std.proofs.Math.Option.{Option, none, some}
use Rattle.std.specs.Int.Signed.{lt_z}
use Rattle.integers.specs.Parts.{integers, sum_parts}
use Rattle.integers.specs.Equality.{eq_z, eq_z_true, eq_z_false}
use Rattle.octets.specs.OctetsLaws.{by_cond}
use Rattle.measure.specs.Target.{x_target, y_target}
use Rattle.measure.proofs.TargetLaws.{target_injective}
use Rattle.dvi_galley.specs.Target.{x_from, x_of_target, height_of_target}

-- ---- across

before : (z x : ℤ) → z ≤ℤ x → (z <ℤ x) ⊎ (z ≡ x)
before z x l = go (lt_z z x) refl
  where
    go : (b : Bool) → lt_z z x ≡ b → (z <ℤ x) ⊎ (z ≡ x)
    go true q = inl (omega (integers, q))
    go false q = inr (omega (integers, q))

-- a place among them that has the target is found
found_from : (t z : ℤ) (k : ℕ) (x : ℤ) → z ≤ℤ x → x <ℤ (z +ℤ pos k) → x_target x ≡ t → x_from t z k ≡ some x
unfolding x_from
found_from t z zero x l h e = absurd (omega (integers, sum_parts z (pos 0)))
found_from t z (suc k) x l h e =
    by_cond (λ (o : Option ℤ). o ≡ some x) (eq_z (x_target z) t) (some z) (x_from t (z +ℤ pos 1) k)
    (λ q. ap some (target_injective z x (eq_z_true (x_target z) t q ∙ sym e)))
    (λ q. next q (before z x l) (λ l. found_from t (z +ℤ pos 1) k x l (omega (integers, sum_parts z (pos 1), sum_parts (z +ℤ pos 1) (pos k), sum_parts z (pos (suc k)))) e))
  where
    next : eq_z (x_target z) t ≡ false → (z <ℤ x) ⊎ (z ≡ x) → ((z +ℤ pos 1) ≤ℤ x → x_from t (z +ℤ pos 1) k ≡ some x) → x_from t (z +ℤ pos 1) k ≡ some x
    next q (inl g) r = r (omega (integers, sum_parts z (pos 1)))
    next q (inr g) r = absurd (eq_z_false (x_target z) t q (ap x_target g ∙ e))

-- if none has it, none is found
none_from : (t z : ℤ) (k : ℕ) → ((x : ℤ) → z ≤ℤ x → x <ℤ (z +ℤ pos k) → x_target x ≡ t → ⊥) → x_from t z k ≡ none
unfolding x_from
none_from t z zero h = refl
none_from t z (suc k) h =
    by_cond (λ (o : Option ℤ). o ≡ none) (eq_z (x_target z) t) (some z) (x_from t (z +ℤ pos 1) k)
    (λ q. absurd (h z (omega integers) (omega (integers, sum_parts z (pos (suc k)))) (eq_z_true (x_target z) t q)))
    (λ q. none_from t (z +ℤ pos 1) k (λ x l u. h x (omega (integers, sum_parts z (pos 1))) (omega (integers, sum_parts z (pos 1), sum_parts (z +ℤ pos 1) (pos k), sum_parts z (pos (suc k))))))

-- what is found has it
target_from : (t z : ℤ) (k : ℕ) (x : ℤ) → x_from t z k ≡ some x → x_target x ≡ t
unfolding x_from
target_from t z zero x e = cc
target_from t z (suc k) x d =
    by_cond (λ (o : Option ℤ). o ≡ some x → x_target x ≡ t) (eq_z (x_target z) t) (some z) (x_from t (z +ℤ pos 1) k)
    (λ q e. let d : z ≡ x = cc in ap x_target (sym d) ∙ eq_z_true (x_target z) t q)
    (λ q e. target_from t (z +ℤ pos 1) k x e)
    d

pub x_of_target_x_target : (x : ℤ) → negsuc 54 ≤ℤ x → x ≤ℤ pos 3239 → x_of_target (x_target x) ≡ some x
unfolding x_of_target
x_of_target_x_target x l h = found_from (x_target x) (negsuc 54) 3295 x l (omega (integers, sum_parts (negsuc 54) (pos 3295))) refl

pub x_of_target_none : (t : ℤ) → ((x : ℤ) → negsuc 54 ≤ℤ x → x ≤ℤ pos 3239 → x_target x ≡ t → ⊥) → x_of_target t ≡ none
unfolding x_of_target
x_of_target_none t h = none_from t (negsuc 54) 3295 (λ x l u. h x l (omega (integers, sum_parts (negsuc 54) (pos 3295))))

pub x_target_x_of_target : (t x : ℤ) → x_of_target t ≡ some x → x_target x ≡ t
unfolding x_of_target
x_target_x_of_target t x e = target_from t (negsuc 54) 3295 x e

-- ---- down

pub height_of_target_y_target : (h : ℤ) → pos 0 ≤ℤ h → height_of_target (y_target h) ≡ some h
unfolding height_of_target y_target
height_of_target_y_target (pos n) l =
    let d : (32768 * n) / 32768 ≡ n = omega arith in
    ap (λ (b : Bool). cond b (some (pos ((32768 * n) / 32768))) none) (eq-eqb ((32768 * n) % 32768) 0 (omega arith)) ∙ ap (λ (k : ℕ). some (pos k)) d
height_of_target_y_target (negsuc n) l = absurd l.le

pub y_target_height_of_target : (t h : ℤ) → height_of_target t ≡ some h → y_target h ≡ t
unfolding height_of_target y_target
y_target_height_of_target (pos n) h f =
    by_cond (λ (o : Option ℤ). o ≡ some h → pos 32768 *ℤ h ≡ pos n) (eqb (n % 32768) 0) (some (pos (n / 32768))) none
    (λ q e.
    let d : pos (n / 32768) ≡ h = cc in
    let r : 32768 * (n / 32768) ≡ n = omega (arith, eqb-true (n % 32768) 0 q) in
    ap (λ (k : ℤ). pos 32768 *ℤ k) (sym d) ∙ ap pos r)
    (λ q e. cc)
    f
y_target_height_of_target (negsuc n) h e = cc
