-- `dvi_characters::position::Position::start` meets its contract: no font, x and y 0.
-- Assumes nothing.
use mathlib.Core.Path.{refl}
use Rattle.dvi_characters.specs.PositionLaws.{position_start}
use Rattle.dvi_characters.proofs.position.Position.start.Goals as goal

pub returns : goal.returns
returns c = position_start _ refl refl refl
