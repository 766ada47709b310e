-- `octets::number::to_bits` meets its contract: a negative number's bits are counted down from the largest.
-- Assumes nothing.
use mathlib.Core.Path.{ap, ◌∙◌}
use Prim.Native.Nat.{ℕ, ◌-◌}
use lib.IntN.{pos, negsuc, ◌-ℤ◌}
use lib.Signed.{◌<ℤ◌, ◌≤ℤ◌}
use mir.Syntax.{w32}
use mir.Val.{SFits}
use Rattle.integers.specs.Parts.{integers, bounds, dif_parts}
use Rattle.integers.specs.Bits.{plain}
use Rattle.octets.specs.WordLaws.{mag_negative, mag_natural, residue_negative, residue_natural}
use Rattle.octets.proofs.number.to_bits.Goals as goal
use Rattle.octets.proofs.number.to_bits.Goals.{Then-z-lt0, Else-z-lt0}

negative : (c : Then-z-lt0) → c.args.z <ℤ pos 0
negative c = let low = rw (plain c.ranges.z) at c.if-z-lt0.true in omega (integers, low)

natural : (c : Else-z-lt0) → pos 0 ≤ℤ c.args.z
natural c = let high = rw (plain c.ranges.z) at c.if-z-lt0.false in omega (integers, high)

below-fits : (c : Then-z-lt0) → SFits w32 (negsuc 0 -ℤ c.args.z)
below-fits c =
    omega (integers, negative c, bounds c.ranges.z, dif_parts (negsuc 0) c.args.z)

pub returns-then-z-lt0 : goal.returns-then-z-lt0
returns-then-z-lt0 c =
    let z = c.args.z in
    rw (plain c.ranges.z, plain (below-fits c))
    (ap (λ (n : ℕ). 4294967295 - n) (mag_negative z (negative c)) ∙ residue_negative z c.ranges.z (negative c))

pub returns-else-z-lt0 : goal.returns-else-z-lt0
returns-else-z-lt0 c =
    let z = c.args.z in
    rw (plain c.ranges.z) (mag_natural z (natural c) ∙ residue_natural z c.ranges.z (natural c))
