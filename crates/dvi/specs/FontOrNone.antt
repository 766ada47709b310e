-- A font in a byte of the code: its number, or 255 for none.
--     font_or_none     the font that a byte stands for
--     font_some      any other byte stands for a font, and font_known a font number does
--     font_is        the byte of a font is its number
-- Assumes nothing.
use Rattle.std.specs.Prelude.{◌≡◌, Bool, true, false, cond, ℕ, ◌<◌, eqb}
use Rattle.std.proofs.Math.Option.{Option, none, some}
use Rattle.std.proofs.Common.{suc-ne-zero, arith, ne_eqb}

unfoldable pub font_or_none : ℕ → Option ℕ
font_or_none f = cond (eqb f 255) none (some f)

pub font_some : (f : ℕ) → (f ≡ 255 → ⊥) → font_or_none f ≡ some f
unfolding font_or_none
font_some f n = rw (ne_eqb f 255 n)

pub font_known : (f : ℕ) → f < 120 → font_or_none f ≡ some f
font_known f h = font_some f (λ e. omega arith)

pub font_is : (g f : ℕ) → font_or_none g ≡ some f → g ≡ f
unfolding font_or_none
font_is g f = go (eqb g 255)
  where
    go : (t : Bool) → cond t none (some g) ≡ some f → g ≡ f
    go true e = absurd (suc-ne-zero 0 cc)
    go false e = cc
