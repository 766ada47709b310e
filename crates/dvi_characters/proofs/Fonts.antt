-- A change of font: none, FONTNUM or FONT.
-- Assumes nothing.
use mathlib.Core.Path.{◌≡◌, refl, ap, ◌∙◌}
use mathlib.Core.Bool.{Bool, true, false, cond}
use mathlib.Core.List.{List, [], ◌∷◌}
use mathlib.Core.Option.{none, some}
use Prim.Native.Nat.{ℕ, ◌+◌, ◌≤◌, ◌<◌}
use borrow.Author.Tests.{eq-eqb, ne_eqb, lt-ltb, le-ltb}
use lib.Dec.{eqb}
use Rattle.octets.specs.Octets.{bytes}
use Rattle.octets.specs.OctetsLaws.{signed_bytes_pos}
use Rattle.dvi.specs.Command.{FONT, FONTNUM}
use Rattle.dvi.specs.Writer.{font_change, font_command}
use Rattle.dvi.specs.FontOrNone.{font_or_none, font_known}

pub same_font : (last f : ℕ) → f < 120 → last ≡ f → font_change (font_or_none last) f ≡ []
unfolding font_change
same_font last f h e = rw (e, font_known f h, eq-eqb f f refl)

other_font : (last f : ℕ) → (last ≡ f → ⊥) → font_change (font_or_none last) f ≡ font_command f
unfolding font_change font_or_none
other_font last f ne = go (eqb last 255)
  where
    go : (t : Bool) → font_change (cond t none (some last)) f ≡ font_command f
    go true = refl
    go false = rw (ne_eqb last f ne)

-- FONTNUM up to 63, and FONT above
pub low_font : (last f : ℕ) → (last ≡ f → ⊥) → f < 64 → font_change (font_or_none last) f ≡ (FONTNUM + f) ∷ []
unfolding font_command
low_font last f ne h = other_font last f ne ∙ rw (lt-ltb f 64 h)

pub high_font : (last f : ℕ) → (last ≡ f → ⊥) → 64 ≤ f → font_change (font_or_none last) f ≡ FONT ∷ bytes 4 f
unfolding font_command
high_font last f ne h = other_font last f ne ∙ rw (le-ltb f 64 h) (ap (λ (bs : List ℕ). FONT ∷ bs) (signed_bytes_pos 4 f))
