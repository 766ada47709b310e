-- The code's position as the format's position.
--     position_of     the position that a position of the code stands for
--     OnPage         a position is at a place that a character can have, or at the page's start
--     PositionIs     a position of the code is this one, and on the page
use Rattle.std.specs.Prelude.{◌≡◌, pos, negsuc, ◌*ℤ◌, ◌≤ℤ◌}
use Rattle.dvi.specs.Writer as W
use Rattle.dvi.specs.FontOrNone.{font_or_none}
use Rattle.dvi2_commands.specs.declared.position.Position.{Position}

-- a quantum is three units
abbrev pub position_of : Position → W.Position
position_of p = record { font = font_or_none p.font; x = p.x.0; y = pos 3 *ℤ p.height.0 }

pub record OnPage (p : W.Position) : Type 0 where
  pub left : negsuc 54 ≤ℤ p.x
  pub right : p.x ≤ℤ pos 3239
  pub top : pos 0 ≤ℤ p.y
  pub bottom : p.y ≤ℤ pos 3000000

pub record PositionIs (p : Position) (q : W.Position) : Type 0 where
  pub on_page : OnPage (position_of p)
  pub position_is : position_of p ≡ q
