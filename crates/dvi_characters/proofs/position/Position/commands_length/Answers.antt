-- `dvi_characters::position::Position::commands_length` meets its contract: the sum of the lengths of its parts.
-- Assumes nothing.
use mathlib.Core.Path.{ap, ◌∙◌}
use native.Mathlib.Omega.{arith}
use lib.IntN.{ℤ}
use lib.ListN.{length}
use Rattle.dvi.specs.Writer.{move}
use Rattle.dvi_characters.specs.Position.{position_of}
use Rattle.dvi_characters.specs.PositionLaws.{font_valid}
use Rattle.dvi_characters.proofs.Moves.{x_fits, y_fits, x_move, y_move, length_sum}
use Rattle.dvi_characters.proofs.position.Position.commands_length.Goals as goal

pub less-x-requires : goal.less-x-requires
less-x-requires c = x_fits _ _ c.requires.1 _ c.requires.0

pub less-y-requires : goal.less-y-requires
less-y-requires c = y_fits _ _ c.requires.1 _ c.requires.0

pub font_length-requires : goal.font_length-requires
font_length-requires c = font_valid _ c.requires.1.is_valid

pub returns : goal.returns
unfolding position_of
returns c =
    let x = c.move_length.ensures.0 ∙ ap (λ (z : ℤ). length (move 0 z)) (c.less-x.ensures ∙ x_move _ _ c.requires.1 _ c.requires.0) in
    let y = c.move_length-2.ensures.0 ∙ ap (λ (z : ℤ). length (move 0 z)) (c.less-y.ensures ∙ y_move _ _ c.requires.1 _ c.requires.0) in
    (length_sum (position_of c.args.self) c.args.c _ _ _ c.font_length.ensures.0 x y, omega (arith, c.font_length.ensures.1, c.move_length.ensures.1, c.move_length-2.ensures.1))
