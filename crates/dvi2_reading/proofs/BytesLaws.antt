-- Lists of bytes that are equal, or of which one begins the other; a search below a number.
-- Assumes nothing.
use Rattle.std.specs.Prelude.{◌≡◌, refl, Bool, true, false, ◌&&◌, ◌||◌, List, [], ◌∷◌, ◌++◌, ℕ, zero, suc, ◌≤◌, ◌<◌, eqb, length, take, drop}
use Rattle.std.proofs.Common.{sym, ap, subst, ◌∙◌, suc-ne-zero, arith, eq-eqb, eqb-true, take_at, drop_at}
use Rattle.std.proofs.lemmas.Bool.{eqb-false}
use Rattle.octets.specs.FieldLaws.{both}
use Rattle.dvi2_reading.specs.PageReading.{same, begins, some_below}

pub both_true : (t u : Bool) → t ≡ true → u ≡ true → (t && u) ≡ true
both_true t u p q = rw (p, q)

pub either : (t u : Bool) → (t || u) ≡ true → (X : Type 0) → (t ≡ true → X) → (u ≡ true → X) → X
either true u e X f g = f refl
either false u e X f g = g e

pub left_true : (t u : Bool) → t ≡ true → (t || u) ≡ true
left_true t u p = rw p

pub right_true : (t u : Bool) → u ≡ true → (t || u) ≡ true
right_true true u p = refl
right_true false u p = p

pub same_is : (xs ys : List ℕ) → same xs ys ≡ true → xs ≡ ys
unfolding same
same_is [] [] e = refl
same_is [] (y ∷ ys) e = absurd (suc-ne-zero 0 cc)
same_is (x ∷ xs) [] e = absurd (suc-ne-zero 0 cc)
same_is (x ∷ xs) (y ∷ ys) e =
    let b = both (eqb x y) (same xs ys) e in
    (λ i. eqb-true x y b.0 i ∷ same_is xs ys b.1 i)

pub same_self : (xs : List ℕ) → same xs xs ≡ true
unfolding same
same_self [] = refl
same_self (x ∷ xs) = rw (eq-eqb x x refl) (same_self xs)

pub record Longer (xs ys : List ℕ) : Type 0 where
  pub more : List ℕ
  pub whole_is : ys ≡ xs ++ more

pub begins_is : (xs ys : List ℕ) → begins xs ys ≡ true → Longer xs ys
unfolding begins
begins_is [] ys e = record { more = ys; whole_is = refl }
begins_is (x ∷ xs) [] e = absurd (suc-ne-zero 0 cc)
begins_is (x ∷ xs) (y ∷ ys) e =
    let b = both (eqb x y) (begins xs ys) e in
    let l = begins_is xs ys b.1 in
    record { more = l.more; whole_is = λ i. sym (eqb-true x y b.0) i ∷ l.whole_is i }

pub begins_append : (xs ys : List ℕ) → begins xs (xs ++ ys) ≡ true
unfolding begins
begins_append [] ys = refl
begins_append (x ∷ xs) ys = rw (eq-eqb x x refl) (begins_append xs ys)

pub is_begins : (xs ys zs : List ℕ) → ys ≡ xs ++ zs → begins xs ys ≡ true
is_begins xs ys zs e = rw e (begins_append xs zs)

pub record Below (n : ℕ) (p : ℕ → Bool) : Type 0 where
  pub found : ℕ
  pub is_below : found < n
  pub holds : p found ≡ true

pub some_found : (n : ℕ) (p : ℕ → Bool) → some_below n p ≡ true → Below n p
unfolding some_below
some_found zero p e = absurd (suc-ne-zero 0 cc)
some_found (suc n) p e =
    either (p n) (some_below n p) e (Below (suc n) p)
    (λ h. record { found = n; is_below = omega arith; holds = h })
    (λ h. let b = some_found n p h in let l = b.is_below in record { found = b.found; is_below = omega arith; holds = b.holds })

pub found_some : (n : ℕ) (p : ℕ → Bool) (k : ℕ) → k < n → p k ≡ true → some_below n p ≡ true
unfolding some_below
found_some zero p k l h = absurd (omega arith)
found_some (suc n) p k l h = go (λ m. found_some n p k m h) (eqb k n) refl
  where
    go : (k < n → some_below n p ≡ true) → (t : Bool) → eqb k n ≡ t → (p n || some_below n p) ≡ true
    go f true e = left_true (p n) (some_below n p) (subst (λ (j : ℕ). p j ≡ true) (eqb-true k n e) h)
    go f false e = let d = eqb-false k n e in right_true (p n) (some_below n p) (f (omega arith))

-- two ways to cut a list at one place
pub cut_first : (xs ys us vs : List ℕ) → xs ++ ys ≡ us ++ vs → length xs ≡ length us → xs ≡ us
cut_first xs ys us vs e l = sym (take_at xs ys (length us) l) ∙ ap (take (length us)) e ∙ take_at us vs (length us) refl

pub cut_rest : (xs ys us vs : List ℕ) → xs ++ ys ≡ us ++ vs → length xs ≡ length us → ys ≡ vs
cut_rest xs ys us vs e l = sym (drop_at xs ys (length us) l) ∙ ap (drop (length us)) e ∙ drop_at us vs (length us) refl

-- where the second cut is no earlier, the first part begins the second
pub cut_before : (xs ys us vs : List ℕ) → xs ++ ys ≡ us ++ vs → length xs ≤ length us → us ≡ xs ++ drop (length xs) us
cut_before [] ys us vs e l = refl
cut_before (x ∷ xs) ys [] vs e l = absurd (omega arith)
cut_before (x ∷ xs) ys (u ∷ us) vs e l =
    let h : x ≡ u = cc in
    let t : xs ++ ys ≡ us ++ vs = cc in
    (λ i. sym h i ∷ cut_before xs ys us vs t (omega arith) i)
