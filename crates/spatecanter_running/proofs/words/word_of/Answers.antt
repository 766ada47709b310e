-- `spatecanter_running::words::word_of` meets its contract: the sum is exact in 64 bits, and not negative.
-- Assumes nothing.
use mathlib.Core.Path.{refl}
use lib.IntN.{pos, ◌+ℤ◌}
use mir.Syntax.{w64}
use mir.Val.{SFits}
use Rattle.integers.specs.Parts.{integers, bounds, sum_parts, abs_parts, non_neg_by}
use Rattle.integers.specs.Bits.{plain, wide, widened}
use Rattle.spatecanter_running.specs.Words.{word_of}
use Rattle.spatecanter_running.specs.WordsLaws.{word_back}
use Rattle.spatecanter_running.proofs.words.word_of.Goals as goal
use Rattle.spatecanter_running.proofs.words.word_of.Goals.{Start}

sum_fits : (s : Start) → SFits w64 (s.args.z +ℤ pos 2147483648)
sum_fits s = omega (integers, bounds s.ranges.z, sum_parts s.args.z (pos 2147483648))

pub overflow_cast-result : goal.overflow_cast-result
overflow_cast-result c = rw (plain c.ranges.z) (wide c.ranges.z)

pub overflow_add-result : goal.overflow_add-result
overflow_add-result c = rw (widened c.ranges.z) (sum_fits c)

pub overflow_cast-result-2 : goal.overflow_cast-result-2
overflow_cast-result-2 c =
    let s = c.args.z +ℤ pos 2147483648 in
    let p = sum_parts c.args.z (pos 2147483648) in
    rw (widened c.ranges.z, plain (sum_fits c)) (non_neg_by s (omega (integers, bounds c.ranges.z, p)), omega (integers, bounds (sum_fits c), abs_parts s))

pub returns : goal.returns
unfolding word_of
returns c = rw (widened c.ranges.z, plain (sum_fits c)) (refl, word_back c.args.z c.ranges.z)
