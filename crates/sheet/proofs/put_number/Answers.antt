-- `sheet::put_number` meets its contract: the test holds, as there is room.
-- Assumes nothing.
use mathlib.Core.Path.{ap}
use native.Mathlib.Omega.{arith}
use Rattle.integers.specs.Bits.{plain}
use Rattle.octets.specs.Octets.{signed_bytes}
use Rattle.octets.specs.Write.{named}
use Rattle.sheet.proofs.put_number.Goals as goal

pub returns-then-at-out : goal.returns-then-at-out
returns-then-at-out c =
    named (ap (signed_bytes 4) (plain c.ranges.z)) c.put_signed4.ensures

pub returns : goal.returns
returns c = absurd (omega (arith, c.if-at-out.false, c.requires))
