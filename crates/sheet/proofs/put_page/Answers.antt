-- `sheet::put_page` meets its contract: one write after the other.
-- Assumes nothing.
use mathlib.Core.Path.{ap}
use native.Mathlib.Omega.{arith}
use Rattle.integers.specs.Bits.{plain}
use Rattle.octets.specs.Octets.{bytes, signed_bytes}
use Rattle.octets.specs.Field.{field}
use Rattle.octets.specs.Write.{length_wrote, then, named}
use Rattle.sheet.specs.Sheet.{mark_field}
use Rattle.sheet.proofs.put_page.Goals as goal

pub put_number-requires : goal.put_number-requires
unfolding bytes
put_number-requires c = let w = c.put_head-next.ensures in omega (arith, w.next_is, length_wrote w)

pub returns : goal.returns
unfolding mark_field field signed_bytes bytes
returns c =
    then c.put_head-next.ensures (named (ap (signed_bytes 4) (plain c.ranges.n)) c.put_number.ensures)
