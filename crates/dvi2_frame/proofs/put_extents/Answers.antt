-- `dvi2_frame::put_extents` meets its contract: one write after the other.
-- Assumes nothing.
use mathlib.Core.Path.{refl, ap}
use native.Mathlib.Omega.{arith}
use Rattle.integers.specs.Bits.{plain}
use Rattle.octets.specs.Octets.{bytes, signed_bytes}
use Rattle.octets.specs.Write.{then, named, room_after}
use Rattle.dvi2_frame.proofs.put_extents.Goals as goal

pub put_signed4-to-requires-2 : goal.put_signed4-to-requires-2
unfolding bytes signed_bytes
put_signed4-to-requires-2 c = omega (arith, room_after c.put_signed4-to.ensures 4 8 refl c.requires)

pub put_nat2-to-requires : goal.put_nat2-to-requires
unfolding bytes signed_bytes
put_nat2-to-requires c = omega (arith, room_after (then c.put_signed4-to.ensures c.put_signed4-to-2.ensures) 8 4 refl c.requires)

pub put_nat2-requires : goal.put_nat2-requires
unfolding bytes signed_bytes
put_nat2-requires c =
    omega (arith, room_after (then c.put_signed4-to.ensures (then c.put_signed4-to-2.ensures c.put_nat2-to.ensures)) 10 2 refl c.requires)

pub returns : goal.returns
returns c =
    then (named (ap (signed_bytes 4) (plain c.ranges.height)) c.put_signed4-to.ensures)
    (then (named (ap (signed_bytes 4) (plain c.ranges.width)) c.put_signed4-to-2.ensures) (then c.put_nat2-to.ensures c.put_nat2.ensures))
