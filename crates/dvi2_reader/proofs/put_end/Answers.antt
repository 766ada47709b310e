-- `dvi2_reader::put_end` meets its contract: written, or counted.
-- Assumes nothing.
use mathlib.Core.Path.{refl}
use native.Mathlib.Omega.{arith}
use Rattle.octets.specs.Octets.{bytes}
use Rattle.octets.specs.Field.{field, end_field}
use Rattle.octets.specs.PutIfRoomLaws.{put_if_room_written, put_if_room_counted}
use Rattle.dvi2_reader.proofs.put_end.Goals as goal

pub returns-then-out-at : goal.returns-then-out-at
unfolding end_field field bytes
returns-then-out-at c = put_if_room_counted _ _ _ 7 refl c.if-out-at.true

pub overflow_cast-count : goal.overflow_cast-count
overflow_cast-count c = omega (arith, c.requires.1)

pub returns-else-out-at : goal.returns-else-out-at
returns-else-out-at c = put_if_room_written c.put_end.ensures
