-- `dvi2_commands::position::Position::right_to` meets its contract: a move between valid places fits.
-- Assumes nothing.
use borrow.Author.Rules.{rules}
use mir.Syntax.{w32}
use mir.Val.{SFits}
use Rattle.integers.specs.Bits.{plain}
use Rattle.dvi2_commands.proofs.Positions.{right_fits}
use Rattle.dvi2_commands.proofs.position.Position.right_to.Goals as goal

pub overflow_sub-result : goal.overflow_sub-result
overflow_sub-result c =
    let f : SFits w32 c.args.c.x.0 = search rules in
    let g : SFits w32 c.args.self.x.0 = search rules in
    rw (plain f, plain g) (right_fits c.args.self c.args.c c.requires.0 c.requires.1)

pub returns : goal.returns
returns c =
    let f : SFits w32 c.args.c.x.0 = search rules in
    let g : SFits w32 c.args.self.x.0 = search rules in
    rw (plain f, plain g, plain (right_fits c.args.self c.args.c c.requires.0 c.requires.1))
