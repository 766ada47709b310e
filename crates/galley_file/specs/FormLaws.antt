-- What the numbers of a form have to do with each other.
-- Assumes nothing.
use Rattle.std.specs.Prelude.{◌≡◌, refl, ℕ, ◌+◌, ◌*◌, ◌≤◌, T, pos, nat_abs, ◌≤ℤ◌}
use Rattle.std.proofs.Common.{arith, Fits}
use Rattle.measure.specs.Place.{height_end}
use Rattle.std.specs.Int.Signed.{non_neg}
use Rattle.std.specs.Int.{w32}
use Rattle.integers.specs.Parts.{integers}
use Rattle.galley_file.specs.declared.form.Form.{Form}
use Rattle.galley_file.specs.declared.form.Form.TheVariants.{Old, New}
use Rattle.galley_file.specs.Form.{height_bytes, body_bytes, character_size, greatest_height, max_galley}

pub record FormSizes (form : Form) : Type 0 where
  pub size_is : character_size form ≡ height_bytes form + 7
  pub body_is : body_bytes form ≡ height_bytes form + 4
  pub most : height_bytes form ≤ 4
  pub low : greatest_height form ≤ℤ height_end
  pub short : max_galley form ≤ max_galley New

pub form_sizes : (form : Form) → FormSizes form
form_sizes Old = record { size_is = refl; body_is = refl; most = omega arith; low = omega integers; short = omega arith }
form_sizes New = record { size_is = refl; body_is = refl; most = omega arith; low = omega integers; short = omega arith }

-- the greatest height is a natural number that fits
pub limit_fits : (form : Form) → T (non_neg (greatest_height form)) × Fits w32 (nat_abs (greatest_height form))
limit_fits Old = (tt, omega arith)
limit_fits New = (tt, omega arith)

pub limit_abs : (form : Form) → pos (nat_abs (greatest_height form)) ≡ greatest_height form
limit_abs Old = refl
limit_abs New = refl

-- the bytes of n characters are at least n, and at most 11 n
pub size_times : (form : Form) (n : ℕ) → (n ≤ character_size form * n) × (character_size form * n ≤ 11 * n)
size_times Old n = (omega arith, omega arith)
size_times New n = (omega arith, omega arith)

-- one character more
pub size_next : (form : Form) (n : ℕ) → character_size form * (n + 1) ≡ character_size form * n + character_size form
size_next Old n = omega arith
size_next New n = omega arith
