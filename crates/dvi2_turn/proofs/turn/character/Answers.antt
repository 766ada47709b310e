-- `dvi2_turn::turn::character` meets its contract: the place and the font of the position.
-- Assumes nothing.
use Rattle.dvi2_turn.proofs.Stands.{character_is}
use Rattle.dvi2_turn.proofs.turn.character.Goals as goal

pub returns : goal.returns
returns c = λ f e. character_is c.args.h c.args.code f c.requires e
