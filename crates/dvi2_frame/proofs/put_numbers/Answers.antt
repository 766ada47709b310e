-- `dvi2_frame::put_numbers` meets its contract: one write after the other, or none.
-- Assumes nothing.
use mathlib.Core.Path.{refl}
use mathlib.Core.List.{◌++◌}
use Prim.Native.Nat.{◌%◌}
use native.Mathlib.Omega.{arith}
use Rattle.integers.specs.Bits.{plain}
use Rattle.octets.specs.Octets.{bytes, signed_bytes}
use Rattle.octets.specs.Write.{then, named, room_after}
use Rattle.dvi2.specs.Writer.{unit_bytes}
use Rattle.dvi2_frame.specs.Frame.{post_with}
use Rattle.octets.specs.PutIfRoomLaws.{put_if_room_written, put_if_room_counted}
use Rattle.dvi2_frame.specs.FrameLaws.{length_post}
use Rattle.dvi2_frame.proofs.put_numbers.Goals as goal

pub returns-then-out-at : goal.returns-then-out-at
returns-then-out-at c = put_if_room_counted _ _ _ 29 (length_post _ _ _ _) c.if-out-at.true

pub put_unit-to-requires : goal.put_unit-to-requires
unfolding bytes
put_unit-to-requires c = omega (arith, room_after (then c.put_byte-to.ensures c.put_nat4-to.ensures) 5 24 refl c.if-out-at.false)

pub put_extents-requires : goal.put_extents-requires
unfolding bytes unit_bytes
put_extents-requires c =
    omega (arith, room_after (then c.put_byte-to.ensures (then c.put_nat4-to.ensures c.put_unit-to.ensures)) 17 12 refl c.if-out-at.false)

pub returns : goal.returns
unfolding post_with
returns c =
    let h = plain c.ranges.height in
    let w = plain c.ranges.width in
    put_if_room_written
    (then c.put_byte-to.ensures
    (then c.put_nat4-to.ensures
    (then c.put_unit-to.ensures
    (named (λ i. signed_bytes 4 (h i) ++ (signed_bytes 4 (w i) ++ (bytes 2 0 ++ bytes 2 (c.args.pages % 65536)))) c.put_extents.ensures))))
