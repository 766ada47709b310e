-- How the bytes of a transducer grow with its list.
--     transduced_append     the bytes of two lists, and transduced_more of one element more
--     transduced_part       the first elements have no more bytes than all
--     transduced_most       the most bytes of a list, by those of an element
--     transduced_at         a count of bytes that a state keeps
-- Assumes nothing.
use Rattle.std.specs.Prelude.{◌≡◌, ℕ, ◌+◌, ◌*◌, ◌≤◌, length}
use Rattle.std.proofs.Math.Path.{refl, sym, ap}
use Rattle.std.proofs.Common.{◌∙◌}
use mathlib.Core.List.{List, [], ◌∷◌, ◌++◌, foldl, append_assoc, append-nil}
use Rattle.std.proofs.Math.Nat.{mul-suc}
use native.Mathlib.Omega.{arith}
use Rattle.std.proofs.Math.ListN.{length-append}
use Rattle.octets.specs.Transducer.{transduced}

module _ {S A : Type 0} (bytes_of : S → A → List ℕ) (after : S → A → S) where
  abbrev made : S → List A → List ℕ
  made s xs = transduced bytes_of after s xs

  pub transduced_append : (s : S) (xs ys : List A) → made s (xs ++ ys) ≡ made s xs ++ made (foldl after s xs) ys
  unfolding transduced
  transduced_append s [] ys = refl
  transduced_append s (x ∷ xs) ys =
      ap (λ (l : List ℕ). bytes_of s x ++ l) (transduced_append (after s x) xs ys)
      ∙ sym (append_assoc (bytes_of s x) (made (after s x) xs) (made (foldl after (after s x) xs) ys))

  pub transduced_more : (s : S) (xs : List A) (x : A) → made s (xs ++ (x ∷ [])) ≡ made s xs ++ bytes_of (foldl after s xs) x
  unfolding transduced
  transduced_more s xs x =
      transduced_append s xs (x ∷ []) ∙ ap (λ (l : List ℕ). made s xs ++ l) (append-nil (bytes_of (foldl after s xs) x))

  pub transduced_part : (s : S) (xs ys : List A) → length (made s xs) ≤ length (made s (xs ++ ys))
  transduced_part s xs ys = rw (transduced_append s xs ys, length-append) (omega arith)

  pub transduced_most : (n : ℕ) → ((s : S) (x : A) → length (bytes_of s x) ≤ n) → (s : S) (xs : List A) → length (made s xs) ≤ n * length xs
  unfolding transduced
  transduced_most n h s [] = omega arith
  transduced_most n h s (x ∷ xs) = rw (length-append, mul-suc n (length xs)) (omega (arith, h s x, transduced_most n h (after s x) xs))

  pub transduced_at : (at : S → ℕ) → ((s : S) (x : A) → at (after s x) ≡ at s + length (bytes_of s x)) → (s : S) (xs : List A) → at (foldl after s xs) ≡ at s + length (made s xs)
  unfolding transduced
  transduced_at at h s [] = omega arith
  transduced_at at h s (x ∷ xs) = rw length-append (omega (arith, h s x, transduced_at at h (after s x) xs))
