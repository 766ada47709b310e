-- `xgp_code::signed7` meets its contract: the upper half of the numbers of seven bits is negative.
-- Assumes nothing.
use Rattle.std.specs.Prelude.{◌≡◌, suc, ◌-◌, pos, negsuc, ◌-ℤ◌}
use Rattle.std.proofs.Common.{sym, ◌∙◌, w32}
use mir.Val.{SFits}
use Rattle.integers.specs.Parts.{integers, dif_parts}
use Rattle.integers.specs.Bits.{plain, returned}
use Rattle.octets.specs.OctetsLaws.{twos_low, twos_high}
use Rattle.xgp_code.proofs.signed7.Goals as goal

pub overflow_sub-result : goal.overflow_sub-result
overflow_sub-result c =
    let b = c.args.b in
    rw (returned w32 c.from-else-b-lt64.type_inv c.from-else-b-lt64.ensures) (omega (integers, dif_parts (pos b) (pos 128)))

pub returns-then-b-lt64 : goal.returns-then-b-lt64
returns-then-b-lt64 c = returned w32 c.from.type_inv c.from.ensures ∙ sym (twos_low 128 c.args.b (omega integers))

pub returns-else-b-lt64 : goal.returns-else-b-lt64
returns-else-b-lt64 c =
    let b = c.args.b in
    let d : pos b -ℤ pos 128 ≡ negsuc (128 - suc b) = omega (integers, dif_parts (pos b) (pos 128)) in
    let f : SFits w32 (pos b -ℤ pos 128) = omega (integers, dif_parts (pos b) (pos 128)) in
    rw (returned w32 c.from-else-b-lt64.type_inv c.from-else-b-lt64.ensures) (plain f ∙ d ∙ sym (twos_high 128 b (omega integers)))
