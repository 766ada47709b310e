-- `dvi_frame::postamble::put_head` meets its contract: one write after the other.
-- Assumes nothing.
use mathlib.Core.Path.{refl, sym, ap}
use native.Mathlib.Omega.{arith}
use borrow.Author.Rules.{rules}
use mir.Syntax.{w32}
use mir.Val.{SFits}
use Rattle.integers.specs.Bits.{plain}
use Rattle.octets.specs.Octets.{bytes, signed_bytes}
use Rattle.octets.specs.OctetsLaws.{signed_bytes_pos}
use Rattle.octets.specs.Write.{then, named, room_after}
use Rattle.dvi_frame.specs.Postamble.{head_bytes}
use Rattle.dvi_frame.proofs.postamble.put_head.Goals as goal

pub put_signed4-to-requires : goal.put_signed4-to-requires
unfolding bytes
put_signed4-to-requires c =
    room_after (then c.put_byte-to.ensures c.put_nat4-to.ensures) 5 4 refl (omega (arith, c.requires))

pub put_signed4-requires : goal.put_signed4-requires
unfolding bytes signed_bytes
put_signed4-requires c =
    room_after (then (then c.put_byte-to.ensures c.put_nat4-to.ensures) c.put_signed4-to.ensures) 9 4 refl (omega (arith, c.requires))

pub returns : goal.returns
unfolding head_bytes
returns c =
    let g = c.args in
    let fy : SFits w32 g.sizes.y.0 = search rules in
    let fx : SFits w32 g.sizes.x.0 = search rules in
    then c.put_byte-to.ensures (then (named (sym (signed_bytes_pos 4 g.last)) c.put_nat4-to.ensures)
    (then (named (ap (signed_bytes 4) (plain fy)) c.put_signed4-to.ensures) (named (ap (signed_bytes 4) (plain fx)) c.put_signed4.ensures)))
