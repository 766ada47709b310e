-- `dvi2_commands::command::put_move` meets its contract: nothing for 0, else the command by the width, and then the number in as many bytes.
-- Assumes nothing.
use mathlib.Core.Path.{◌≡◌, refl, sym, ap, ◌∙◌}
use Prim.Native.Nat.{◌+◌}
use native.Mathlib.Omega.{arith}
use Rattle.integers.specs.Bits.{plain}
use Rattle.octets.specs.Write.{then, named, room_after}
use Rattle.dvi2.specs.Writer.{parameter_width}
use Rattle.octets.specs.PutIfRoomLaws.{put_if_room_written, put_if_room_counted, put_if_room_none, put_if_room_named}
use Rattle.dvi2_commands.proofs.Moves.{move_none, length_some, move_some}
use Rattle.dvi2_commands.proofs.command.put_move.Goals as goal
use Rattle.dvi2_commands.proofs.command.put_move.Goals.{After-parameter_width-width}

is-width : (c : After-parameter_width-width) → c.parameter_width-width.result ≡ parameter_width c.args.m
is-width c = c.parameter_width-width.ensures.0 ∙ ap parameter_width (plain c.ranges.m)

pub returns-then-m-eq0 : goal.returns-then-m-eq0
returns-then-m-eq0 c = put_if_room_named (sym (move_none _ c.ranges.m _ c.if-m-eq0.true)) (put_if_room_none _ _)

pub returns-then-out-at : goal.returns-then-out-at
returns-then-out-at c =
    let w = c.parameter_width-width.result in
    let e : c.args.at + 1 + w ≡ c.args.at + (1 + w) = omega arith in
    rw e
    (put_if_room_counted _ _ _ (1 + w) (length_some c.args.m c.ranges.m c.args.op c.if-m-eq0.false ∙ ap (λ n. 1 + n) (sym (is-width (goal.at.returns-then-out-at c).After-parameter_width-width))) (omega (arith, c.if-out-at.true)))

pub put_signed-requires : goal.put_signed-requires
put_signed-requires c =
    let w = c.parameter_width-width in
    record { room = room_after c.put_byte-to.ensures 1 w.result refl (omega (arith, c.if-out-at.false)); widths = w.ensures.1 }

pub returns : goal.returns
returns c =
    put_if_room_written
    (named (move_some c.args.m c.ranges.m c.args.op c.if-m-eq0.false _ (is-width (goal.at.returns c).After-parameter_width-width)) (then c.put_byte-to.ensures c.put_signed.ensures))
