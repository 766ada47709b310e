-- `octets::number::signed1_at` meets its contract: shifted to the top of 32 bits and back.
-- Assumes nothing.
use mathlib.Core.Path.{sym, ◌∙◌}
use Prim.Native.Nat.{◌<◌}
use native.Mathlib.Omega.{arith}
use Rattle.octets.specs.WordLaws.{nat_at_one, signed_at_shifted}
use Rattle.octets.proofs.number.signed1_at.Goals as goal

pub returns : goal.returns
returns c =
    let n = c.wide.result in
    let b : n < 256 = c.wide.ensures.1 in
    let e = c.wide.ensures.0 ∙ sym (nat_at_one c.args.at c.args.s.now c.requires) in
    signed_at_shifted 1 16777216 c.args.at c.args.s.now n c.of_bits.result c.requires e c.of_bits.type_inv c.of_bits.ensures
    (λ h. (omega arith, omega arith)) (λ h. (omega arith, omega arith))
