-- `measure::Units::x` meets its contract: a carriage that is not negative, less 55, fits.
-- Assumes nothing.
use lib.IntN.{pos, ◌-ℤ◌}
use borrow.Author.Rules.{rules}
use mir.Syntax.{w32}
use mir.Val.{SFits}
use Rattle.integers.specs.Parts.{integers, bounds, dif_parts}
use Rattle.integers.specs.Bits.{plain}
use Rattle.measure.specs.Target.{x_of}
use Rattle.measure.proofs.Units.x.Goals as goal
use Rattle.measure.proofs.Units.x.Goals.{After-struct_told-then-double-1}

shifted : (c : After-struct_told-then-double-1) → SFits w32 (c.args.self.0 -ℤ pos 55)
shifted c =
    let f : SFits w32 c.args.self.0 = search rules in
    omega (integers, bounds f, dif_parts c.args.self.0 (pos 55))

pub returns-then-double : goal.returns-then-double
unfolding x_of
returns-then-double c =
    let f : SFits w32 c.args.self.0 = search rules in
    rw (plain f, plain (shifted c), c.if-double.true)

pub returns-else-double : goal.returns-else-double
unfolding x_of
returns-else-double c = rw c.if-double.false
