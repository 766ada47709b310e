-- `dvi2_commands::font::put_definition` meets its contract: one write after the other, or none.
-- Assumes nothing.
use mathlib.Core.Path.{refl, ap}
use mathlib.Core.List.{◌++◌}
use Prim.Native.Nat.{ℕ, ◌*◌}
use native.Mathlib.Omega.{arith}
use Rattle.octets.specs.Octets.{bytes}
use Rattle.octets.specs.Write.{then, named, room_after}
use Rattle.dvi2.specs.Writer.{definition}
use Rattle.dvi2.specs.WriterLaws.{length_definition}
use Rattle.octets.specs.PutIfRoomLaws.{put_if_room_written, put_if_room_counted}
use Rattle.dvi2_commands.proofs.font.put_definition.Goals as goal

pub returns-then-out-at : goal.returns-then-out-at
returns-then-out-at c = put_if_room_counted _ _ _ 20 (length_definition _) c.if-out-at.true

pub put_nat2-to-requires : goal.put_nat2-to-requires
unfolding bytes
put_nat2-to-requires c =
    omega (arith, room_after (then c.put_byte-to.ensures (then c.put_byte-to-2.ensures c.put_sizes-to.ensures)) 14 6 refl c.if-out-at.false)

pub put_name-requires : goal.put_name-requires
unfolding bytes
put_name-requires c = (
  room_after (then c.put_byte-to.ensures (then c.put_byte-to-2.ensures (then c.put_sizes-to.ensures c.put_nat2-to.ensures))) 16 4 refl c.if-out-at.false,
  c.requires.1,
)

pub returns : goal.returns
unfolding definition bytes
returns c =
    let s = named (ap (λ (n : ℕ). bytes 4 0 ++ (bytes 4 (6 * n) ++ bytes 4 (6 * n))) c.point_size.ensures) c.put_sizes-to.ensures in
    put_if_room_written
    (then c.put_byte-to.ensures
    (then c.put_byte-to-2.ensures (then s (then c.put_nat2-to.ensures c.put_name.ensures))))
