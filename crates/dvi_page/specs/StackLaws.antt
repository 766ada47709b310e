-- How high the stack in the array is.
-- Assumes nothing.
use Rattle.std.specs.Prelude.{◌≡◌, refl, List, ℕ, zero, suc, ℤ, length}
use Rattle.std.proofs.Common.{ap}
use Rattle.dvi_page.specs.Stack.{stack_of}

pub stack_length : (l : List ℤ) (d : ℕ) → length (stack_of l d) ≡ d
unfolding stack_of
stack_length l zero = refl
stack_length l (suc d) = ap suc (stack_length l d)
