-- `octets::number::of_bits` meets its contract: the upper half of the 32-bit numbers is negative.
-- Assumes nothing.
use mathlib.Core.Path.{◌≡◌, sym, ◌∙◌}
use Prim.Native.Nat.{suc, ◌-◌}
use lib.IntN.{pos, negsuc, ◌-ℤ◌}
use mir.Syntax.{w32}
use mir.Val.{SFits}
use Rattle.integers.specs.Parts.{integers, dif_parts}
use Rattle.integers.specs.Bits.{plain, plain_pos}
use Rattle.octets.specs.OctetsLaws.{twos_low, twos_high}
use Rattle.octets.proofs.number.of_bits.Goals as goal

pub returns-then-v-lt2147483648 : goal.returns-then-v-lt2147483648
returns-then-v-lt2147483648 c =
    let v = c.args.v in
    let f : SFits w32 (pos v) = omega integers in
    plain_pos f ∙ sym (twos_low 4294967296 v (omega integers))

pub returns-else-v-lt2147483648 : goal.returns-else-v-lt2147483648
returns-else-v-lt2147483648 c =
    let v = c.args.v in
    let f : SFits w32 (pos (4294967295 - v)) = omega integers in
    let d : negsuc 0 -ℤ pos (4294967295 - v) ≡ negsuc (4294967296 - suc v) = omega (integers, dif_parts (negsuc 0) (pos (4294967295 - v)), c.ranges.v.fits) in
    let g : SFits w32 (negsuc 0 -ℤ pos (4294967295 - v)) = omega (integers, dif_parts (negsuc 0) (pos (4294967295 - v))) in
    rw (plain_pos f, plain g) (d ∙ sym (twos_high 4294967296 v (omega integers)))
