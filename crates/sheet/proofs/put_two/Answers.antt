-- `sheet::put_two` meets its contract: one write after the other.
-- Assumes nothing.
use mathlib.Core.Path.{ap}
use native.Mathlib.Omega.{arith}
use Rattle.integers.specs.Bits.{plain}
use Rattle.octets.specs.Octets.{bytes, signed_bytes}
use Rattle.octets.specs.Write.{length_wrote, then, named}
use Rattle.sheet.proofs.put_two.Goals as goal

pub put_number-requires : goal.put_number-requires
unfolding bytes signed_bytes
put_number-requires c = let w = c.put_number-next.ensures in omega (arith, w.next_is, length_wrote w)

pub returns : goal.returns
returns c =
    then (named (ap (signed_bytes 4) (plain c.ranges.a)) c.put_number-next.ensures) (named (ap (signed_bytes 4) (plain c.ranges.b)) c.put_number.ensures)
