-- Sums in 64 bits, and the array of the characters of each font number with one of its entries set.
-- Assumes nothing.
use Rattle.std.proofs.Common.{◌≡◌, ℕ, ◌+◌, ◌^◌, ◌<◌, Bool, true, false, cond, eqb, ltb, List, length, get_or, set, replicate, sym, refl, ap, ◌∙◌, mod-eq_of_lt, arith, get_or-set_other, get_or-set_same, ltb-false, ltb-true, eqb-true}
use borrow.Author.Tests.{eqb-false}
use lib.ListN.{length-replicate, get_or-replicate, get_or-eq_default}
use Rattle.figures.specs.Figures.{sum64}

get_d_set : (l : List ℕ) (k v n : ℕ) → k < length l → get_or (set l k v) n 0 ≡ cond (eqb k n) v (get_or l n 0)
get_d_set l k v n h = go (eqb k n) refl
  where
    go : (t : Bool) → eqb k n ≡ t → get_or (set l k v) n 0 ≡ cond t v (get_or l n 0)
    go true t = ap (λ (m : ℕ). get_or (set l k v) m 0) (sym (eqb-true k n t)) ∙ get_or-set_same l k v 0 h
    go false t = get_or-set_other l k n v 0 (λ e. eqb-false k n t (sym e))

pub small_sum : (x n : ℕ) → x + n < 2 ^ 64 → sum64 x n ≡ x + n
small_sum x n h = mod-eq_of_lt h

-- n more of the font number k
pub more_of : (l : List ℕ) (k m n : ℕ) → k < length l → get_or l k 0 + m < 2 ^ 64 → get_or (set l k (sum64 (get_or l k 0) m)) n 0 ≡ get_or l n 0 + cond (eqb k n) m 0
more_of l k m n h b = get_d_set l k (sum64 (get_or l k 0) m) n h ∙ go (eqb k n) refl
  where
    go : (t : Bool) → eqb k n ≡ t → cond t (sum64 (get_or l k 0) m) (get_or l n 0) ≡ get_or l n 0 + cond t m 0
    go true t = small_sum (get_or l k 0) m b ∙ ap (λ (j : ℕ). get_or l j 0 + m) (eqb-true k n t)
    go false t = omega arith

pub no_characters : (n : ℕ) → ◌≡◌ {A = ℕ} (get_or (replicate 120 0) n 0) 0
no_characters n = go (ltb n 120) refl
  where
    go : (t : Bool) → ltb n 120 ≡ t → ◌≡◌ {A = ℕ} (get_or (replicate 120 0) n 0) 0
    go true t = get_or-replicate 120 n 0 0 (ltb-true n 120 t)
    go false t = let z : ℕ = 0 in get_or-eq_default (replicate 120 z) z {n = n} (omega (arith, length-replicate 120 z, ltb-false n 120 t))
