-- A table's entries by one computed equation: a function's list over the numbers from k.
-- Assumes nothing.
use Rattle.std.specs.Prelude.{◌≡◌, List, [], ◌∷◌, map, ℕ, zero, suc, ◌+◌, ◌<◌, get_or}
use Rattle.std.proofs.Common.{sym, ap, ◌∙◌, add-zero, add-suc, suc-add, zero-add, le_of_suc-le-suc, not-suc-le-zero}

-- n numbers from k
abbrev pub numbers : ℕ → ℕ → List ℕ
numbers k zero = []
numbers k (suc n) = k ∷ numbers (suc k) n

at_number_lem : {A : Type 0} (f : ℕ → A) (d : A) (n k i : ℕ) → i < n → get_or (map f (numbers k n)) i d ≡ f (k + i)
at_number_lem f d zero k i h = absurd (not-suc-le-zero h)
at_number_lem f d (suc n) k zero h = ap f (sym (add-zero k))
at_number_lem f d (suc n) k (suc i) h = at_number_lem f d n (suc k) i (le_of_suc-le-suc h) ∙ ap f (suc-add k i ∙ sym (add-suc k i))

pub table_entry : {A : Type 0} (f : ℕ → A) (d : A) (n i : ℕ) → i < n → get_or (map f (numbers 0 n)) i d ≡ f i
table_entry f d n i h = at_number_lem f d n 0 i h ∙ ap f (zero-add i)

-- two functions that agree on a list of the numbers below n agree at each of them
pub agree : {A : Type 0} (f g : ℕ → A) (d : A) (n : ℕ) → map f (numbers 0 n) ≡ map g (numbers 0 n) → (i : ℕ) → i < n → f i ≡ g i
agree f g d n e i h = sym (table_entry f d n i h) ∙ ap (λ (l : List _). get_or l i d) e ∙ table_entry g d n i h
