-- `dvi_characters::position::Position::at_character` meets its contract: a valid place has targets.
-- Assumes nothing.
use mathlib.Core.Path.{refl}
use Rattle.dvi_characters.specs.PositionLaws.{x_between, y_between, position_made}
use Rattle.dvi_characters.proofs.position.Position.at_character.Goals as goal

pub target-requires : goal.target-requires
target-requires c = record { negsuc_bound = x_between c.args.c c.requires.c_value; targets_value = c.requires.targets_value }

pub target-requires-2 : goal.target-requires-2
target-requires-2 c = y_between c.args.c c.requires.c_value

pub returns : goal.returns
returns c = position_made c.args.c c.requires.c_value _ refl c.target.ensures c.target-2.ensures
