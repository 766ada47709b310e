-- `xgp::state::State::down` meets its contract: the baseline moves.
-- Assumes nothing.
use Rattle.std.specs.Prelude.{◌+ℤ◌}
use Rattle.std.proofs.Common.{ap, ◌∙◌, w32, rules}
use Rattle.integers.specs.Bits.{plain}
use Rattle.octets.specs.ReachLaws.{sum_to, sum_off}
use Rattle.xgp.specs.State.{with_baseline}
use Rattle.xgp.specs.Effect.{effect_of}
use Rattle.xgp.proofs.States.{baseline_to, baseline_off}
use Rattle.xgp.proofs.state.State.down.Goals as goal

pub returns-in_err-y : goal.returns-in_err-y
returns-in_err-y c =
    let a = c.args in
    ap (effect_of a.self) c.from_residual.ensures
    ∙ baseline_off a.self (a.self.baseline.0 +ℤ a.by.0) (sum_off a.self.baseline.0 a.by.0 c.sum.ensures (search rules) (search rules) c.in_err-y.was)

pub returns : goal.returns
unfolding with_baseline
returns c =
    let a = c.args in
    let k = sum_to a.self.baseline.0 a.by.0 c.sum.ensures (search rules) (search rules) c.in_ok-y.was in
    baseline_to a.self (a.self.baseline.0 +ℤ a.by.0) k.0 (plain {w = w32} {z = c.in_ok-y.y} (search rules) ∙ k.1)
