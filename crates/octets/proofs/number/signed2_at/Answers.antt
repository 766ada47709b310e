-- `octets::number::signed2_at` meets its contract: shifted to the top of 32 bits and back.
-- Assumes nothing.
use Prim.Native.Nat.{◌<◌}
use native.Mathlib.Omega.{arith}
use Rattle.octets.specs.WordLaws.{signed_at_shifted}
use Rattle.octets.proofs.number.signed2_at.Goals as goal

pub returns : goal.returns
returns c =
    let n = c.nat2_at.result in
    let b : n < 65536 = c.nat2_at.ensures.1 in
    signed_at_shifted 2 65536 c.args.at c.args.s.now n c.of_bits.result c.requires c.nat2_at.ensures.0 c.of_bits.type_inv c.of_bits.ensures
    (λ h. (omega arith, omega arith)) (λ h. (omega arith, omega arith))
