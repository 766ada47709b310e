-- `dvi_frame::bop::put_bop` meets its contract: one write after the other.
-- Assumes nothing.
use mathlib.Core.Path.{refl, sym, ap}
use Rattle.integers.specs.Bits.{plain}
use Rattle.octets.specs.Octets.{bytes, signed_bytes}
use Rattle.octets.specs.OctetsLaws.{signed_bytes_pos}
use Rattle.octets.specs.Write.{then, named, room_after}
use Rattle.dvi.specs.Writer.{bop_bytes}
use Rattle.dvi_frame.proofs.bop.put_bop.Goals as goal

pub put_signed4-requires : goal.put_signed4-requires
unfolding bytes
put_signed4-requires c =
    room_after (then c.put_byte-to.ensures c.put_nat4-to.ensures) 5 4 refl c.requires

pub returns : goal.returns
unfolding bop_bytes
returns c =
    then c.put_byte-to.ensures (then (named (sym (signed_bytes_pos 4 c.args.page)) c.put_nat4-to.ensures)
    (named (ap (signed_bytes 4) (plain c.ranges.previous)) c.put_signed4.ensures))
