-- `xgp::state::State::y_in` meets its contract.
-- Assumes nothing.
use mathlib.Core.Path.{◌∙◌}
use lib.IntN.{◌-ℤ◌}
use mir.Syntax.{w32}
use Rattle.integers.specs.Bits.{plain}
use Rattle.octets.specs.Reach.{reach}
use Rattle.xgp.specs.State.{y_in}
use borrow.Author.Rules.{rules}
use Rattle.xgp.proofs.state.State.y_in.Goals as goal

pub returns : goal.returns
unfolding y_in
returns c =
    let s = c.args.self in
    let b = plain {w = w32} {z = s.baseline.0} (search rules) in
    let a = plain {w = w32} {z = s.adjust.0} (search rules) in
    c.difference.ensures ∙ (λ i. reach (b i -ℤ a i))
