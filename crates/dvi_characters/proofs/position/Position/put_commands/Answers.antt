-- `dvi_characters::position::Position::put_commands` meets its contract: one write after the other, and the moves are those of the format.
-- Assumes nothing.
use mathlib.Core.Path.{ap, ◌∙◌}
use native.Mathlib.Omega.{arith}
use lib.IntN.{ℤ, ◌-ℤ◌}
use lib.ListN.{length}
use Rattle.octets.specs.Write.{Wrote, then, named, length_wrote}
use Rattle.dvi.specs.Command.{X4, Y4}
use Rattle.dvi.specs.Writer.{x_target_of, y_target_of, move, commands_of}
use Rattle.dvi_characters.specs.Position.{position_of}
use Rattle.dvi_characters.specs.PositionLaws.{font_valid}
use Rattle.dvi_characters.proofs.Moves.{x_fits, y_fits, x_move, y_move, length_parts}
use Rattle.dvi_characters.proofs.position.Position.put_commands.Goals as goal
use Rattle.dvi_characters.proofs.position.Position.put_commands.Goals.{After-put_move-to, After-put_move-to-2}

-- the moves are written as the format has them
x-wrote : (c : After-put_move-to) → let a = c.args in
    Wrote c.put_font-to.new.out c.put_font-to.result (move X4 (x_target_of a.c -ℤ (position_of a.self).x)) c.put_move-to.new.out c.put_move-to.result
x-wrote c =
    named (ap (move X4) (c.less-x.ensures ∙ x_move _ _ c.requires.1.1 _ c.requires.1.0)) c.put_move-to.ensures

y-wrote : (c : After-put_move-to-2) → let a = c.args in
    Wrote c.put_move-to.new.out c.put_move-to.result (move Y4 (y_target_of a.c -ℤ (position_of a.self).y)) c.put_move-to-2.new.out c.put_move-to-2.result
y-wrote c =
    named (ap (move Y4) (c.less-y.ensures ∙ y_move _ _ c.requires.1.1 _ c.requires.1.0)) c.put_move-to-2.ensures

pub less-x-requires : goal.less-x-requires
less-x-requires c = x_fits _ _ c.requires.1.1 _ c.requires.1.0

pub less-y-requires : goal.less-y-requires
less-y-requires c = y_fits _ _ c.requires.1.1 _ c.requires.1.0

pub put_font-to-requires : goal.put_font-to-requires
unfolding position_of
put_font-to-requires c =
    (omega (arith, c.requires.0, length_parts (position_of c.args.self) c.args.c), font_valid _ c.requires.1.1.is_valid)

pub put_move-to-requires : goal.put_move-to-requires
unfolding position_of
put_move-to-requires c =
    let m = ap (λ (z : ℤ). length (move X4 z)) (c.less-x.ensures ∙ x_move _ _ c.requires.1.1 _ c.requires.1.0) in
    let w = c.put_font-to.ensures in
    (omega (arith, c.requires.0, length_parts (position_of c.args.self) c.args.c, m, w.next_is, length_wrote w), omega arith)

pub put_move-to-requires-2 : goal.put_move-to-requires-2
unfolding position_of
put_move-to-requires-2 c =
    let m = ap (λ (z : ℤ). length (move Y4 z)) (c.less-y.ensures ∙ y_move _ _ c.requires.1.1 _ c.requires.1.0) in
    let w = c.put_font-to.ensures in
    let x = x-wrote (goal.at.put_move-to-requires-2 c).After-put_move-to in
    (omega (arith, c.requires.0, length_parts (position_of c.args.self) c.args.c, m, w.next_is, x.next_is, length_wrote (then w x)), omega arith)

pub put_byte-to-requires : goal.put_byte-to-requires
unfolding position_of
put_byte-to-requires c =
    let w = c.put_font-to.ensures in
    let x = x-wrote (goal.at.put_byte-to-requires c).After-put_move-to in
    let y = y-wrote (goal.at.put_byte-to-requires c).After-put_move-to-2 in
    omega (arith, c.requires.0, length_parts (position_of c.args.self) c.args.c, w.next_is, x.next_is, y.next_is, length_wrote (then w (then x y)))

pub put_byte-requires : goal.put_byte-requires
unfolding position_of
put_byte-requires c =
    let w = c.put_font-to.ensures in
    let x = x-wrote (goal.at.put_byte-requires c).After-put_move-to in
    let y = y-wrote (goal.at.put_byte-requires c).After-put_move-to-2 in
    let b = c.put_byte-to.ensures in
    omega (
      arith,
      c.requires.0,
      length_parts (position_of c.args.self) c.args.c,
      w.next_is,
      x.next_is,
      y.next_is,
      b.next_is,
      length_wrote (then w (then x (then y b))),
    )

pub returns : goal.returns
unfolding position_of commands_of
returns c =
    then c.put_font-to.ensures (then (x-wrote (goal.at.returns c).After-put_move-to) (then (y-wrote (goal.at.returns c).After-put_move-to-2) (then c.put_byte-to.ensures c.put_byte.ensures)))
