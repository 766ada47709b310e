-- `sheet::put_rule` meets its contract: one write after the other.
-- Assumes nothing.
use mathlib.Core.List.{◌++◌}
use native.Mathlib.Omega.{arith}
use Rattle.integers.specs.Bits.{plain}
use Rattle.octets.specs.Octets.{bytes, signed_bytes}
use Rattle.octets.specs.Field.{field}
use Rattle.octets.specs.Write.{length_wrote, then, named}
use Rattle.sheet.specs.Sheet.{mark_field}
use Rattle.sheet.proofs.put_rule.Goals as goal

pub put_byte-next-requires : goal.put_byte-next-requires
unfolding bytes
put_byte-next-requires c = let w = c.put_head-body.ensures in omega (arith, w.next_is, length_wrote w)

pub put_two-placed-requires : goal.put_two-placed-requires
unfolding bytes
put_two-placed-requires c =
    let w = then c.put_head-body.ensures c.put_byte-next.ensures in
    omega (arith, w.next_is, length_wrote w)

pub put_two-requires : goal.put_two-requires
unfolding bytes signed_bytes
put_two-requires c =
    let w₁ = then c.put_head-body.ensures c.put_byte-next.ensures in
    let w = then w₁ c.put_two-placed.ensures in
    omega (arith, w.next_is, length_wrote w)

pub returns : goal.returns
unfolding mark_field field signed_bytes bytes
returns c =
    let f = c.ranges in
    let place = named (λ i. signed_bytes 4 (plain f.x i) ++ signed_bytes 4 (plain f.y i)) c.put_two-placed.ensures in
    let sides = named (λ i. signed_bytes 4 (plain f.h i) ++ signed_bytes 4 (plain f.w i)) c.put_two.ensures in
    then (then (then c.put_head-body.ensures c.put_byte-next.ensures) place) sides
