-- Where a search for the end of a font's name stops, and what is left to check from there.
--     after_name     whether the definitions after a name are right
--     FoundIn       what is found lies past a place, in so many bytes
--     Past          where the check goes on after a part of a definition
use Rattle.std.specs.Prelude.{◌≡◌, Bool, false, List, ℕ, ◌≤◌, ◌<◌, length, drop, Option, Some, None}
use Rattle.dvi.specs.Postamble.{Part, at_id, definitions}

-- the check goes on at the font ID at j, or fails
abbrev pub after_name : ℕ → Option ℕ → List ℕ → Bool
after_name pst (Some j) s = definitions pst at_id (drop j s)
after_name pst None s = false

-- what is found lies past i, within n bytes
abbrev pub FoundIn : ℕ → Option ℕ → ℕ → Type 0
FoundIn i (Some j) n = (i < j) × (j ≤ n)
FoundIn i None n = Unit {0}

-- r is where the check of s goes on after the part of a definition that is read from k on
pub record Past (s : List ℕ) (i : ℕ) (part : Part) (k : ℕ) (r : Option ℕ) : Type 0 where
  pub goes_on : (pst : ℕ) → definitions pst part (drop k s) ≡ after_name pst r s
  pub within : FoundIn i r (length s)
