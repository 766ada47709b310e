-- `dvi_characters::command::put_move` meets its contract: the command by the width, and then the number in as many bytes.
-- Assumes nothing.
use mathlib.Core.Path.{◌≡◌, refl, sym, ap, ◌∙◌}
use Prim.Native.Nat.{◌+◌, ◌≤◌}
use native.Mathlib.Omega.{arith}
use borrow.Author.Rules.{rules}
use lib.ListN.{length}
use mir.Syntax.{w32}
use mir.Val.{SFits}
use Rattle.integers.specs.Bits.{plain}
use Rattle.octets.specs.Octets.{width_of}
use Rattle.octets.specs.Write.{then, named, wrote_none, room_after}
use Rattle.dvi_characters.proofs.Moves.{move_none, length_some, move_some}
use Rattle.dvi_characters.proofs.command.put_move.Goals as goal
use Rattle.dvi_characters.proofs.command.put_move.Goals.{After-signed_width-width}

is-width : (c : After-signed_width-width) → c.signed_width-width.result ≡ width_of c.args.m.0
is-width c =
    let f : SFits w32 c.args.m.0 = search rules in
    c.signed_width-width.ensures.0 ∙ ap width_of (plain f)

-- the command and the number have room
room : (c : After-signed_width-width) → let a = c.args in a.at + (1 + c.signed_width-width.result) ≤ length a.out.now
room c =
    let f : SFits w32 c.args.m.0 = search rules in
    omega (arith, c.requires.0, length_some c.args.m.0 f c.args.op c.if-z-eq0.false, is-width c)

pub returns-then-z-eq0 : goal.returns-then-z-eq0
returns-then-z-eq0 c =
    let f : SFits w32 c.args.m.0 = search rules in
    named (sym (move_none _ f _ c.if-z-eq0.true)) (wrote_none _ _)

pub put_byte-to-requires : goal.put_byte-to-requires
put_byte-to-requires c = omega (arith, room (goal.at.put_byte-to-requires c).After-signed_width-width)

pub put_signed-requires : goal.put_signed-requires
put_signed-requires c = record {
  room = room_after c.put_byte-to.ensures 1 _ refl (omega (arith, room (goal.at.put_signed-requires c).After-signed_width-width));
  widths = (let w = c.signed_width-width.ensures.1 in (omega (arith, w.0), w.1));
}

pub returns : goal.returns
returns c =
    let f : SFits w32 c.args.m.0 = search rules in
    let e = is-width (goal.at.returns c).After-signed_width-width in
    named (move_some _ f _ c.if-z-eq0.false _ e) (then c.put_byte-to.ensures c.put_signed.ensures)
