-- How bytes compare with a command, byte by byte.
-- Assumes nothing.
use mathlib.Core.Path.{◌≡◌, refl, sym, ap, ◌∙◌}
use mathlib.Core.Bool.{Bool, true, false, cond, ◌&&◌}
use mathlib.Core.List.{List, [], ◌∷◌, ◌++◌}
use Prim.Native.Nat.{ℕ, ◌<◌}
use native.Mathlib.Nat.{suc-ne-zero}
use native.Mathlib.Omega.{arith}
use Rattle.std.specs.Prelude.{Ok, Err}
use Rattle.dvi2_reading.specs.PageReading.{begins}
use Rattle.dvi2_reading.proofs.StepLaws.{Alike, begins_it, holds_it}
use borrow.Author.Tests.{eqb-true, eqb-false, eq-eqb, ne_eqb}
use lib.Dec.{eqb}
use lib.ListN.{length, drop}
use Rattle.dvi2_state.specs.declared.page_state.Wrong.TheVariants.{Bad, Short}
use Rattle.dvi2_page.specs.Match.{compared}

-- by which of the two begins the other
compared_is : (s e : List ℕ) → compared s e ≡ cond (begins e s) (Ok tt) (cond (begins s e) (Err Short) (Err Bad))
unfolding compared begins
compared_is s [] = refl
compared_is [] (x ∷ e) = refl
compared_is (b ∷ s) (x ∷ e) = go (compared_is s e) (eqb b x) refl
  where
    go : compared s e ≡ cond (begins e s) (Ok tt) (cond (begins s e) (Err Short) (Err Bad)) → (t : Bool) → eqb b x ≡ t
        → cond t (compared s e) (Err Bad) ≡ cond (eqb x b && begins e s) (Ok tt) (cond (t && begins s e) (Err Short) (Err Bad))
    go f true q = rw (eq-eqb x b (sym (eqb-true b x q))) f
    go f false q = rw (ne_eqb x b (λ h. eqb-false b x q (sym h))) refl

module _ (s e : List ℕ) where
  pub compared_whole : begins e s ≡ true → Ok tt ≡ compared s e
  compared_whole p = sym (compared_is s e ∙ ap (λ (t : Bool). cond t (Ok tt) (cond (begins s e) (Err Short) (Err Bad))) p)

  module _ (n : begins e s ≡ false) where
    pub compared_short : begins s e ≡ true → Err Short ≡ compared s e
    compared_short p = sym (compared_is s e ∙ (λ i. cond (n i) (Ok tt) (cond (p i) (Err Short) (Err Bad))))

    pub compared_other : begins s e ≡ false → Err Bad ≡ compared s e
    compared_other p = sym (compared_is s e ∙ (λ i. cond (n i) (Ok tt) (cond (p i) (Err Short) (Err Bad))))

-- ---- what a comparison tells

pub whole_is : (s e : List ℕ) → compared s e ≡ Ok tt → s ≡ e ++ drop (length e) s
unfolding compared
whole_is s [] n = refl
whole_is [] (x ∷ e) n = absurd (suc-ne-zero 0 cc)
whole_is (y ∷ s) (x ∷ e) n = go (λ k. whole_is s e k) (eqb y x) refl n
  where
    go : (compared s e ≡ Ok tt → s ≡ e ++ drop (length e) s) → (t : Bool) → eqb y x ≡ t → cond t (compared s e) (Err Bad) ≡ Ok tt → y ∷ s ≡ x ∷ e ++ drop (length e) s
    go f true q k = (λ i. eqb-true y x q i ∷ f k i)
    go f false q k = absurd (suc-ne-zero 0 cc)

pub record Begun (s e : List ℕ) : Type 0 where
  pub more : List ℕ
  pub whole_is : e ≡ s ++ more
  pub some_more : 0 < length more

pub short_is : (s e : List ℕ) → compared s e ≡ Err Short → Begun s e
unfolding compared
short_is s [] n = absurd (suc-ne-zero 0 cc)
short_is [] (x ∷ e) n = record { more = x ∷ e; whole_is = refl; some_more = omega arith }
short_is (y ∷ s) (x ∷ e) n = go (λ k. short_is s e k) (eqb y x) refl n
  where
    go : (compared s e ≡ Err Short → Begun s e) → (t : Bool) → eqb y x ≡ t → cond t (compared s e) (Err Bad) ≡ Err Short → Begun (y ∷ s) (x ∷ e)
    go f true q k = let r = f k in record { more = r.more; whole_is = λ i. sym (eqb-true y x q) i ∷ r.whole_is i; some_more = r.some_more }
    go f false q k = absurd (suc-ne-zero 0 cc)

pub other_is : (s e : List ℕ) → compared s e ≡ Err Bad → Alike s e → ⊥
unfolding compared
other_is s [] n a = suc-ne-zero 0 cc
other_is [] (x ∷ e) n a = suc-ne-zero 0 cc
other_is (y ∷ s) (x ∷ e) n a = go (λ k t. other_is s e k t) (eqb y x) refl n a
  where
    go : (compared s e ≡ Err Bad → Alike s e → ⊥) → (t : Bool) → eqb y x ≡ t → cond t (compared s e) (Err Bad) ≡ Err Bad → Alike (y ∷ s) (x ∷ e) → ⊥
    go f true q k (begins_it z r) = f k (begins_it z (let t : e ≡ s ++ z = cc in t))
    go f true q k (holds_it w r) = f k (holds_it w (let t : s ≡ e ++ w = cc in t))
    go f false q k (begins_it z r) = eqb-false y x q (let t : x ≡ y = cc in sym t)
    go f false q k (holds_it w r) = eqb-false y x q (let t : y ≡ x = cc in t)
