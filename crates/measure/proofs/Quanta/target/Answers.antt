-- `measure::Quanta::target` meets its contract: 32768 times a low height fits.
-- Assumes nothing.
use borrow.Author.Rules.{rules}
use lib.IntN.{pos, ◌*ℤ◌}
use mir.Syntax.{w32}
use mir.Val.{SFits}
use Rattle.integers.specs.Parts.{integers, scale_parts}
use Rattle.integers.specs.Bits.{plain}
use Rattle.measure.specs.Target.{y_target}
use Rattle.measure.proofs.Quanta.target.Goals as goal
use Rattle.measure.proofs.Quanta.target.Goals.{After-struct_told-1}

product-fits : (c : After-struct_told-1) → SFits w32 (pos 32768 *ℤ c.args.self.0)
product-fits c = omega (integers, scale_parts 32768 c.args.self.0)

pub returns : goal.returns
unfolding y_target
returns c =
    let f : SFits w32 c.args.self.0 = search rules in
    rw (plain f, plain (product-fits c))
