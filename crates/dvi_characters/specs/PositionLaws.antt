-- The position at the start of a page, at a character, and after an item.
-- Assumes nothing.
use Rattle.std.specs.Prelude.{◌≡◌, true, ◌<◌, pos, negsuc, ◌≤ℤ◌}
use Rattle.std.proofs.Math.Path.{ap}
use Rattle.std.proofs.Common.{subst, ◌∙◌}
use Rattle.integers.specs.Parts.{integers}
use Rattle.measure.specs.Place.{low_end}
use Rattle.measure.proofs.TargetLaws.{target_least, target_greatest, y_parts}
use Rattle.galley_file.specs.declared.character.Character.{Character}
use Rattle.galley_file.specs.declared.item.Item.{Item}
use Rattle.galley_file.specs.Character.{valid}
use Rattle.galley_file.specs.CharacterLaws.{valid_parts, x_range, height_range}
use Rattle.dvi.specs.Writer as W
use Rattle.dvi.specs.FontOrNone.{font_or_none, font_known}
use Rattle.dvi_characters.specs.declared.position.Position.{Position}
use Rattle.dvi_characters.specs.Position.{position_of, OnPage, PositionIs, position_after, PositionAt}

pub position_start : (p : Position) → p.font ≡ 255 → p.x.0 ≡ pos 0 → p.y.0 ≡ pos 0 → PositionIs p W.start_position
unfolding position_of font_or_none W.start_position
position_start p f x y = record {
  on_page = record { left = rw x (omega integers); right = rw x (omega integers); top = rw y (omega integers); bottom = rw y (omega integers) };
  position_is = rw (f, x, y);
}

module _ (c : Character) (v : valid low_end c ≡ true) where
  pub x_between : (negsuc 54 ≤ℤ c.x.0) × (c.x.0 ≤ℤ pos 3239)
  x_between = x_range (valid_parts v)

  pub y_between : (pos 0 ≤ℤ c.height.0) × (c.height.0 ≤ℤ low_end)
  y_between = height_range (valid_parts v)

  pub font_valid : c.font < 120
  font_valid = (valid_parts v).font

  page_at : OnPage (W.position_at c)
  unfolding W.position_at
  page_at =
      let y = y_parts c.height.0 in
      let h = y_between in
      record {
        left = target_least c.x.0 x_between.0;
        right = target_greatest c.x.0 x_between.1;
        top = omega (integers, y, h.0);
        bottom = omega (integers, y, h.1);
      }

  pub position_made : (p : Position) → p.font ≡ c.font → p.x.0 ≡ W.x_target_of c → p.y.0 ≡ W.y_target_of c → PositionAt p c
  unfolding position_of W.position_at
  position_made p f x y = record {
    is_valid = v;
    position_is = (λ i. record { font = (ap font_or_none f ∙ font_known c.font font_valid) i; x = x i; y = y i });
  }

module _ (p : Position) (c : Character) (h : PositionAt p c) where
  pub x_at_lem : p.x.0 ≡ W.x_target_of c
  unfolding position_of W.position_at
  x_at_lem = ap (λ (q : W.Position). q.x) h.position_is

  pub y_at_lem : p.y.0 ≡ W.y_target_of c
  unfolding position_of W.position_at
  y_at_lem = ap (λ (q : W.Position). q.y) h.position_is

  pub on_page_at : OnPage (position_of p)
  on_page_at = rw h.position_is (page_at c h.is_valid)

  pub position_set : PositionIs p (W.position_at c)
  position_set = record { on_page = on_page_at; position_is = h.position_is }

-- the same of an item that is another
pub position_kind : (p : Position) {i j : Item} → i ≡ j → PositionIs p (position_after i) → PositionIs p (position_after j)
position_kind p e n = subst (λ (k : Item). PositionIs p (position_after k)) e n
