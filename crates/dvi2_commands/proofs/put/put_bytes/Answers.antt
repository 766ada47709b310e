-- `dvi2_commands::put::put_bytes` meets its contract: the bytes are copied, or there is no room for all of them.
-- Assumes nothing.
use mathlib.Core.Path.{◌≡◌}
use Prim.Native.Nat.{◌+◌, ◌-◌}
use native.Mathlib.Omega.{arith}
use lib.ListN.{length}
use Rattle.octets.specs.PutIfRoomLaws.{put_if_room_written}
use Rattle.dvi2_commands.proofs.Puts.{wrote_part}
use Rattle.dvi2_commands.proofs.put.put_bytes.Goals as goal

pub returns-then-next-out : goal.returns-then-next-out
returns-then-next-out c =
    let k : length c.args.bytes.now ≡ c.args.at + length c.args.bytes.now - c.args.at = omega arith in
    put_if_room_written (wrote_part _ _ _ _ _ c.copy_from_slice.ensures.after k c.if-next-out.true)
