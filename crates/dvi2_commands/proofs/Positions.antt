-- The position, at the start of a page and at a character, and the moves from it.
-- Assumes nothing.
use mathlib.Core.Path.{◌≡◌, refl}
use mathlib.Core.Bool.{Bool, true, false, cond}
use mathlib.Core.List.{[]}
use mathlib.Core.Option.{none, some}
use Prim.Native.Nat.{ℕ, ◌<◌}
use borrow.Author.Tests.{eq-eqb, ne_eqb}
use lib.Dec.{eqb}
use lib.IntN.{ℤ, pos, ◌-ℤ◌, ◌*ℤ◌}
use mir.Syntax.{w32}
use mir.Val.{SFits}
use Rattle.integers.specs.Parts.{integers, dif_parts, scale_parts}
use Rattle.measure.specs.Place.{height_end}
use Rattle.galley_file.specs.declared.character.Character.{Character}
use Rattle.galley_file.specs.Character.{valid}
use Rattle.galley_file.specs.CharacterLaws.{valid_parts, x_range, height_range}
use Rattle.dvi.specs.Writer.{start_position}
use Rattle.dvi2.specs.Writer.{v_of, position_at, font_commands, font_change}
use Rattle.dvi2_commands.specs.declared.position.Position.{Position}
use Rattle.dvi.specs.FontOrNone.{font_or_none, font_known}
use Rattle.dvi2_commands.specs.Position.{position_of, OnPage, PositionIs}

-- ---- the font, and whether it changes

pub same_font : (known : Bool) (last f : ℕ) → f < 120 → last ≡ f → font_change known (font_or_none last) f ≡ []
unfolding font_change
same_font known last f h e = rw (e, font_known f h, eq-eqb f f refl)

pub other_font : (known : Bool) (last f : ℕ) → (last ≡ f → ⊥) → font_change known (font_or_none last) f ≡ font_commands known f
unfolding font_change font_or_none
other_font known last f ne = go (eqb last 255)
  where
    go : (t : Bool) → font_change known (cond t none (some last)) f ≡ font_commands known f
    go true = refl
    go false = rw (ne_eqb last f ne)

-- ---- at the start of a page, and at a character

pub position_start : (p : Position) → p.font ≡ 255 → p.x.0 ≡ pos 0 → p.height.0 ≡ pos 0 → PositionIs p start_position
unfolding font_or_none start_position
position_start p f x y =
    record {
      on_page = record { left = rw x (omega integers); right = rw x (omega integers); top = rw y (omega integers); bottom = rw y (omega integers) };
      position_is = rw (f, x, y);
    }

pub position_set : (p : Position) (c : Character) → valid height_end c ≡ true → p.font ≡ c.font → p.x ≡ c.x → p.height ≡ c.height → PositionIs p (position_at c)
unfolding position_at
position_set p c v f x h =
    let r = x_range (valid_parts v) in
    let s = height_range (valid_parts v) in
    record {
      on_page = record {
        left = rw x r.0;
        right = rw x r.1;
        top = rw h (omega (integers, s.0, scale_parts 3 c.height.0));
        bottom = rw h (omega (integers, s.0, s.1, scale_parts 3 c.height.0));
      };
      position_is = rw (f, x, h, font_known c.font (valid_parts v).font);
    }

-- ---- the moves

pub thrice_dif : (h g : ℤ) → pos 3 *ℤ (h -ℤ g) ≡ pos 3 *ℤ h -ℤ pos 3 *ℤ g
thrice_dif h g = omega (integers, dif_parts h g, scale_parts 3 (h -ℤ g), scale_parts 3 h, scale_parts 3 g, dif_parts (pos 3 *ℤ h) (pos 3 *ℤ g))

module _ (p : Position) (c : Character) (o : OnPage (position_of p)) (v : valid height_end c ≡ true) where
  pub right_fits : SFits w32 (c.x.0 -ℤ p.x.0)
  right_fits =
      let r = x_range (valid_parts v) in
      omega (integers, r.0, r.1, o.left, o.right, dif_parts c.x.0 p.x.0)

  pub to_fits : SFits w32 c.height.0
  to_fits = let s = height_range (valid_parts v) in omega (integers, s.0, s.1)

  pub from_fits : SFits w32 p.height.0
  from_fits = omega (integers, o.top, o.bottom, scale_parts 3 p.height.0)

  pub drop_fits : SFits w32 (c.height.0 -ℤ p.height.0)
  drop_fits =
      let s = height_range (valid_parts v) in
      omega (integers, s.0, s.1, o.top, o.bottom, scale_parts 3 p.height.0, dif_parts c.height.0 p.height.0)

  pub down_is : pos 3 *ℤ (c.height.0 -ℤ p.height.0) ≡ v_of c -ℤ (position_of p).y
  down_is = thrice_dif c.height.0 p.height.0

  pub down_fits : SFits w32 (pos 3 *ℤ (c.height.0 -ℤ p.height.0))
  down_fits =
      let s = height_range (valid_parts v) in
      let h = c.height.0 in
      let g = p.height.0 in
      omega (integers, s.0, s.1, o.top, o.bottom, scale_parts 3 g, dif_parts h g, scale_parts 3 (h -ℤ g))
