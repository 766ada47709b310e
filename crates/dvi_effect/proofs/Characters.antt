-- The width of a character, and HORZCHAR, by the outcomes of the code's tests.
-- Assumes nothing.
use mathlib.Core.Path.{◌≡◌, refl}
use mathlib.Core.Bool.{true, false, true≢false}
use mathlib.Core.List.{List}
use mathlib.Core.Option.{none, some}
use Prim.Native.Nat.{ℕ, ◌+◌, ◌*◌, ◌≤◌, ◌<◌}
use native.Mathlib.Omega.{arith}
use borrow.Author.Tests.{lt-ltb, le-ltb, ltb-true}
use lib.IntN.{ℤ, pos, negsuc, nat_abs}
use lib.ListN.{length, get_or}
use lib.Signed.{lt_z}
use Rattle.octets.specs.Answer.{cannot_set}
use Rattle.sheet.specs.Readable.{font_chars}
use Rattle.dvi.specs.Page.{Page, fault, marked, width_in, char_here, set_still}

-- ---- the width of a character, by the font's sign and the table's length

module _ (ws : List ℤ) where
  pub width_negative : (f : ℤ) (c : ℕ) → lt_z f (pos 0) ≡ true → none ≡ width_in ws f c
  unfolding width_in
  width_negative (pos f) c h = absurd (omega (arith, ltb-true f 0 h))
  width_negative (negsuc f) c h = refl

  pub width_missing : (f : ℤ) (c : ℕ) → length ws ≤ font_chars * nat_abs f + c → none ≡ width_in ws f c
  unfolding width_in
  width_missing (pos f) c g = rw (le-ltb (font_chars * f + c) (length ws) g)
  width_missing (negsuc f) c g = refl

  pub width_there : (f : ℤ) (c : ℕ) → lt_z f (pos 0) ≡ false → font_chars * nat_abs f + c < length ws → some (get_or ws (font_chars * nat_abs f + c) (pos 0)) ≡ width_in ws f c
  unfolding width_in
  width_there (pos f) c h g = rw (lt-ltb (font_chars * f + c) (length ws) g)
  width_there (negsuc f) c h g = absurd (true≢false h)

-- ---- HORZCHAR, by the sign and the size of its parameter

module _ (p : Page) where
  pub still_none : (c : ℤ) → fault cannot_set ≡ set_still p c none
  unfolding set_still
  still_none (pos c) = refl
  still_none (negsuc c) = refl

  pub still_negative : (c f : ℤ) → lt_z c (pos 0) ≡ true → fault cannot_set ≡ set_still p c (some f)
  unfolding set_still
  still_negative (pos c) f h = absurd (omega (arith, ltb-true c 0 h))
  still_negative (negsuc c) f h = refl

  pub still_above : (c f : ℤ) → 127 < nat_abs c → fault cannot_set ≡ set_still p c (some f)
  unfolding set_still
  still_above (pos c) f h = rw (le-ltb c font_chars (omega arith))
  still_above (negsuc c) f h = refl

  pub still_there : (c f : ℤ) → lt_z c (pos 0) ≡ false → nat_abs c ≤ 127 → marked p (char_here p f (nat_abs c)) ≡ set_still p c (some f)
  unfolding set_still
  still_there (pos c) f h g = rw (lt-ltb c font_chars (omega arith))
  still_there (negsuc c) f h g = absurd (true≢false h)
