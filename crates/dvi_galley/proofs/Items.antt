-- A character by the outcomes of the code's tests.
-- Assumes nothing.
use mathlib.Core.Path.{◌≡◌, refl}
use mathlib.Core.Bool.{true, false, ◌&&◌, true≢false}
use mathlib.Core.Option.{none, some}
use Prim.Native.Nat.{ℕ}
use native.Mathlib.Omega.{arith}
use borrow.Author.Tests.{le-ltb, ltb-true, leb-true}
use lib.Dec.{leb, ltb}
use lib.IntN.{ℤ, pos, negsuc, nat_abs}
use lib.Signed.{lt_z, le_z}
use Rattle.measure.specs.Place.{height_end, within}
use Rattle.measure.specs.declared.Units.{Units}
use Rattle.measure.specs.declared.Quanta.{Quanta}
use Rattle.galley_file.specs.declared.item.Item.TheVariants.{Placed}
use Rattle.galley_file.specs.Font.{size_index, is_double}
use Rattle.galley_file.specs.Character.{valid_x, valid}
use Rattle.dvi_galley.specs.Back.{placed_item, character_shown}

module _ (x : Units) (h : Quanta) (code : ℕ) where
  pub font_negative : (f : ℤ) → lt_z f (pos 0) ≡ true → none ≡ placed_item (character_shown (some x.0) (some h.0) f code)
  unfolding character_shown
  font_negative (pos n) e = absurd (omega (arith, ltb-true n 0 e))
  font_negative (negsuc n) e = refl

  pub font_large : (f : ℤ) → le_z (pos 120) f ≡ true → none ≡ placed_item (character_shown (some x.0) (some h.0) f code)
  unfolding character_shown valid
  font_large (pos n) e = rw (le-ltb n 120 (leb-true 120 n e))
  font_large (negsuc n) e = refl

  module _ (r : within height_end h.0 ≡ true) where
    pub character_valid : (f : ℤ) → lt_z f (pos 0) ≡ false → true ≡ (ltb (nat_abs f) 120 && leb 1 code && leb code 108 && valid_x (is_double (size_index (nat_abs f))) x.0)
        → some (Placed (record { x = x; height = h; font = nat_abs f; code = code })) ≡ placed_item (character_shown (some x.0) (some h.0) f code)
    unfolding character_shown valid
    character_valid (pos n) g e = rw (← e, r)
    character_valid (negsuc n) g e = absurd (true≢false g)

    pub character_not : (f : ℤ) → lt_z f (pos 0) ≡ false → false ≡ (ltb (nat_abs f) 120 && leb 1 code && leb code 108 && valid_x (is_double (size_index (nat_abs f))) x.0)
        → none ≡ placed_item (character_shown (some x.0) (some h.0) f code)
    unfolding character_shown valid
    character_not (pos n) g e = rw (← e)
    character_not (negsuc n) g e = absurd (true≢false g)
