-- `spatecanter_running::words::signed_in` meets its contract: the difference is exact in 64 bits, and fits 32.
-- Assumes nothing.
use Prim.Native.Nat.{◌%◌}
use lib.IntN.{pos, ◌-ℤ◌}
use mir.Syntax.{w64}
use mir.Val.{SFits}
use Rattle.integers.specs.Parts.{integers, dif_parts}
use Rattle.integers.specs.Bits.{plain, plain_pos}
use Rattle.spatecanter_running.specs.Words.{signed_in}
use Rattle.spatecanter_running.specs.WordsLaws.{signed_fits}
use Rattle.spatecanter_running.proofs.words.signed_in.Goals as goal
use Rattle.spatecanter_running.proofs.words.signed_in.Goals.{Start}

low_fits : (s : Start) → SFits w64 (pos (s.args.w % 4294967296))
low_fits s = omega integers

dif_fits : (s : Start) → SFits w64 (pos (s.args.w % 4294967296) -ℤ pos 2147483648)
dif_fits s = omega (integers, dif_parts (pos (s.args.w % 4294967296)) (pos 2147483648))

pub overflow_sub-result : goal.overflow_sub-result
overflow_sub-result c = rw (plain_pos (low_fits c)) (dif_fits c)

pub overflow_cast-result-2 : goal.overflow_cast-result-2
unfolding signed_in
overflow_cast-result-2 c = rw (plain_pos (low_fits c), plain (dif_fits c)) (signed_fits c.args.w)

pub returns : goal.returns
unfolding signed_in
returns c = rw (plain_pos (low_fits c), plain (dif_fits c)) (plain (signed_fits c.args.w))
