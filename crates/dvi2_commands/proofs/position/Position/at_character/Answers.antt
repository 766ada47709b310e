-- `dvi2_commands::position::Position::at_character` meets its contract.
-- Assumes nothing.
use mathlib.Core.Path.{refl}
use Rattle.dvi2_commands.proofs.Positions.{position_set}
use Rattle.dvi2_commands.proofs.position.Position.at_character.Goals as goal

pub returns : goal.returns
returns c = position_set _ c.args.c c.requires refl refl refl
