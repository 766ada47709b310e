-- Bytes that are written if they have room, and counted in any case. Nothing is asked of the buffer; where there is no room for all of them, it is not said what stands
-- in it, so that a pass that only counts has an array of its own. `Put` (`Write`) goes by a flag: it asks for room, and a pass that only counts leaves the lent buffer
-- as it is.
use Rattle.std.specs.Prelude.{◌≡◌, List, ℕ, ◌+◌, ◌≤◌, length}
use Rattle.std.proofs.lemmas.List.Edits.{sets}

-- the buffer `before` is now `later`, with xs at `at` if they have room there, and `next` is the place after them
pub record PutIfRoom (before : List ℕ) (at : ℕ) (xs later : List ℕ) (next : ℕ) : Type 0 where
  pub next_is : next ≡ at + length xs
  pub same_length : length later ≡ length before
  pub buffer_is : at + length xs ≤ length before → later ≡ sets before at xs
