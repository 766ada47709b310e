-- `dvi2_commands::position::Position::start` meets its contract.
-- Assumes nothing.
use mathlib.Core.Path.{refl}
use Rattle.dvi2_commands.proofs.Positions.{position_start}
use Rattle.dvi2_commands.proofs.position.Position.start.Goals as goal

pub returns : goal.returns
returns c = position_start _ refl refl refl
