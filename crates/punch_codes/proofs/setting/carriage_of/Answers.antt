-- `punch_codes::setting::carriage_of` meets its contract: 55 more than a valid x fits.
-- Assumes nothing.
use borrow.Author.Rules.{rules}
use Prim.Native.Nat.{ℕ, ◌<◌}
use lib.IntN.{ℤ, pos, ◌+ℤ◌}
use lib.Signed.{◌≤ℤ◌}
use mir.Syntax.{w32}
use mir.Val.{SFits}
use Rattle.integers.specs.Parts.{integers, bounds, sum_parts}
use Rattle.integers.specs.Bits.{plain}
use Rattle.punch_codes.specs.Codes.{carriage_of}
use Rattle.punch_codes.proofs.setting.carriage_of.Goals as goal
use Rattle.punch_codes.proofs.setting.carriage_of.Goals.{Start}

x_fits : (c : Start) → SFits w32 c.args.x.0
x_fits c = search rules

near_fits : {x : ℤ} {k : ℕ} → SFits w32 x → x ≤ℤ pos 3239 → k < 1000 → SFits w32 (x +ℤ pos k)
near_fits {x} {k} f h l = omega (integers, bounds f, sum_parts x (pos k))

pub overflow_add-result : goal.overflow_add-result
overflow_add-result c = let f = x_fits (goal.at.overflow_add-result c).Start in rw (plain f) (near_fits f c.requires (omega integers))

pub returns-then-double : goal.returns-then-double
unfolding carriage_of
returns-then-double c =
    let f = x_fits (goal.at.returns-then-double c).Start in
    rw (plain f, c.if-double.true) (plain (near_fits f c.requires (omega integers)))

pub returns-else-double : goal.returns-else-double
unfolding carriage_of
returns-else-double c = rw c.if-double.false
