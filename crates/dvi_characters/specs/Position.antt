-- The code's position as the format's position.
--     position_of        the position that a position of the code stands for
--     OnPage            a position is at a place that a character can have, or at the page's start
--     PositionIs        a position of the code is this one, and on the page
--     position_after     the position after an item
--     PositionAt        a position of the code is that after a valid character of a low height
use Rattle.std.specs.Prelude.{◌≡◌, true, pos, negsuc, ◌≤ℤ◌}
use Rattle.measure.specs.Place.{low_end}
use Rattle.galley_file.specs.declared.character.Character.{Character}
use Rattle.galley_file.specs.declared.item.Item.{Item}
use Rattle.galley_file.specs.declared.item.Item.TheVariants.{Placed, Cut}
use Rattle.galley_file.specs.Character.{valid}
use Rattle.dvi.specs.Writer as W
use Rattle.dvi.specs.FontOrNone.{font_or_none}
use Rattle.dvi_characters.specs.declared.position.Position.{Position}

unfoldable pub position_of : Position → W.Position
position_of p = record { font = font_or_none p.font; x = p.x.0; y = p.y.0 }

-- moves between such places are signed 32-bit numbers
pub record OnPage (p : W.Position) : Type 0 where
  pub left : negsuc 600746 ≤ℤ p.x
  pub right : p.x ≤ℤ pos 35378517
  pub top : pos 0 ≤ℤ p.y
  pub bottom : p.y ≤ℤ pos 2147450880

pub record PositionIs (p : Position) (q : W.Position) : Type 0 where
  pub on_page : OnPage (position_of p)
  pub position_is : position_of p ≡ q

-- a cut starts a page
abbrev pub position_after : Item → W.Position
position_after (Placed c) = W.position_at c
position_after Cut = W.start_position

pub record PositionAt (p : Position) (c : Character) : Type 0 where
  pub is_valid : valid low_end c ≡ true
  pub position_is : position_of p ≡ W.position_at c
