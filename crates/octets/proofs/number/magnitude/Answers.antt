-- `octets::number::magnitude` meets its contract: the bits of a negative number are its size, counted down from the largest.
-- Assumes nothing.
use mathlib.Core.Path.{◌≡◌, sym, ap, ◌∙◌}
use native.Mathlib.Omega.{arith}
use Rattle.integers.specs.Parts.{integers}
use Rattle.integers.specs.Bits.{plain}
use Rattle.octets.specs.Octets.{residue}
use Rattle.octets.specs.WordLaws.{residue_negative, residue_natural}
use Rattle.octets.proofs.number.magnitude.Goals as goal
use Rattle.octets.proofs.number.magnitude.Goals.{After-to_bits-bits}

bits_are : (c : After-to_bits-bits) → c.to_bits-bits.result ≡ residue 4294967296 c.args.z
bits_are c = c.to_bits-bits.ensures ∙ ap (residue 4294967296) (plain c.ranges.z)

pub returns-then-z-lt0 : goal.returns-then-z-lt0
returns-then-z-lt0 c =
    let low = rw (plain c.ranges.z) at c.if-z-lt0.true in
    let e = residue_negative c.args.z c.ranges.z (omega (integers, low)) in
    omega (arith, bits_are (goal.at.returns-then-z-lt0 c).After-to_bits-bits, e, c.ranges.z.sfits)

pub returns-else-z-lt0 : goal.returns-else-z-lt0
returns-else-z-lt0 c =
    let high = rw (plain c.ranges.z) at c.if-z-lt0.false in
    bits_are (goal.at.returns-else-z-lt0 c).After-to_bits-bits ∙ sym (residue_natural c.args.z c.ranges.z (omega (integers, high)))
