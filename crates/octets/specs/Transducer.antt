-- A transducer: bytes made of a list, element by element, where the bytes of an element depend on a state that goes on from element to element.
--     transduced     the bytes of all elements, joined
-- The state after them is a foldl.
use Rattle.std.specs.Prelude.{ℕ, List, [], ◌∷◌, ◌++◌}

-- the bytes of an element, and the state after it
module _ {S A : Type 0} (bytes_of : S → A → List ℕ) (after : S → A → S) where
  unfoldable pub transduced : S → List A → List ℕ
  transduced s [] = []
  transduced s (x ∷ xs) = bytes_of s x ++ transduced (after s x) xs
