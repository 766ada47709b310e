-- There is space for the bytes xs at a place: in the buffer, if they are written, and in the count of a place.
-- Assumes nothing.
use Rattle.std.specs.Prelude.{◌≡◌, Bool, true, List, ◌++◌, ℕ, ◌+◌, ◌≤◌, ◌<◌, length}
use Rattle.std.proofs.Common.{subst, arith, length-append}
use Rattle.octets.specs.Write.{Put, put_length}

pub record Space (w : Bool) (out : List ℕ) (at : ℕ) (xs : List ℕ) : Type 0 where
  pub room : w ≡ true → at + length xs ≤ length out
  pub counts : at + length xs < 18446744073709551616

-- ---- laws

module _ {w : Bool} {out : List ℕ} {at : ℕ} where
  pub space_named : {xs ys : List ℕ} → xs ≡ ys → Space w out at xs → Space w out at ys
  space_named e s = subst (λ (l : List ℕ). Space w out at l) e s

  -- of a run in two, the first part has space, and after it the second
  pub space_first : (xs ys : List ℕ) → Space w out at (xs ++ ys) → Space w out at xs
  space_first xs ys s = record { room = λ e. omega (arith, s.room e, length-append xs ys); counts = omega (arith, s.counts, length-append xs ys) }

  pub space_then : (xs ys : List ℕ) {later : List ℕ} {next : ℕ} → Put w out at xs later next → Space w out at (xs ++ ys) → Space w later next ys
  space_then xs ys p s =
      record {
        room = λ e. omega (arith, s.room e, length-append xs ys, p.place, put_length p);
        counts = omega (arith, s.counts, length-append xs ys, p.place);
      }
