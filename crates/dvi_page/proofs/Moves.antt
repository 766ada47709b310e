-- Moves, by whether the coordinate that moves stays in signed 32 bits; the other stays in them by itself.
-- Assumes nothing.
use mathlib.Core.Path.{◌≡◌, refl, ap}
use mathlib.Core.Bool.{Bool, ◌&&◌, and-true}
use lib.IntN.{ℤ, ◌+ℤ◌}
use mir.Syntax.{w32}
use mir.Val.{SFits, to_z, of_z}
use Rattle.octets.specs.Octets.{fits32}
use Rattle.octets.specs.WordLaws.{true_fits32}
use Rattle.octets.specs.Answer.{out_of32_bits}
use Rattle.octets.specs.Reach.{reach}
use Rattle.octets.specs.ReachLaws.{sum_to, sum_off}
use Rattle.std.specs.Prelude.{Option, Some, None}
use Rattle.dvi.specs.Page.{Numbers, Page, Effect, fault, with_numbers, right_by, down_by, if_fits}

pub none_of : (r : Option ℤ) → ((m : ℤ) → r ≡ Some m → ⊥) → r ≡ None
none_of (Some m) f = absurd (f m refl)
none_of None f = refl

abbrev pub Inside : Numbers → Bool
Inside n = fits32 n.x_at && fits32 n.y_at

pub right_inside : (m : ℤ) (n : Numbers) → SFits w32 n.y_at → Inside (right_by m n) ≡ fits32 (n.x_at +ℤ m)
unfolding right_by
right_inside m n g = rw (true_fits32 n.y_at g) (and-true (fits32 (n.x_at +ℤ m)))

pub down_inside : (m : ℤ) (n : Numbers) → SFits w32 n.x_at → Inside (down_by m n) ≡ fits32 (n.y_at +ℤ m)
unfolding down_by
down_inside m n g = rw (true_fits32 n.x_at g)

-- the effect f of a page that goes on at the numbers n, of which the coordinate a moved by m
module _ (f : Page → Effect) (p : Page) (n : Numbers) {a m : ℤ} {r : Option ℤ} (e : r ≡ reach (to_z w32 (of_z w32 a) +ℤ to_z w32 (of_z w32 m)))
    (g : SFits w32 a) (h : SFits w32 m) (i : Inside n ≡ fits32 (a +ℤ m)) where
  pub goes : {q : Page} {v : ℤ} → r ≡ Some v → (v ≡ a +ℤ m → q ≡ with_numbers p n) → f q ≡ if_fits n (f (with_numbers p n))
  unfolding if_fits
  goes t k = let s = sum_to a m e g h t in rw (i, s.0) (ap f (k s.1))

  pub stops : r ≡ None → fault out_of32_bits ≡ if_fits n (f (with_numbers p n))
  unfolding if_fits
  stops t = rw (i, sum_off a m e g h t)
