-- `xgp::state::State::right` meets its contract: x moves.
-- Assumes nothing.
use Rattle.std.specs.Prelude.{◌+ℤ◌}
use Rattle.std.proofs.Common.{ap, ◌∙◌, w32, rules}
use Rattle.integers.specs.Bits.{plain}
use Rattle.octets.specs.ReachLaws.{sum_to, sum_off}
use Rattle.xgp.specs.State.{with_x}
use Rattle.xgp.specs.Effect.{effect_of}
use Rattle.xgp.proofs.States.{x_to, x_off}
use Rattle.xgp.proofs.state.State.right.Goals as goal

pub returns-in_err-x : goal.returns-in_err-x
returns-in_err-x c =
    let a = c.args in
    ap (effect_of a.self) c.from_residual.ensures
    ∙ x_off a.self (a.self.x.0 +ℤ a.by.0) (sum_off a.self.x.0 a.by.0 c.sum.ensures (search rules) (search rules) c.in_err-x.was)

pub returns : goal.returns
unfolding with_x
returns c =
    let a = c.args in
    let k = sum_to a.self.x.0 a.by.0 c.sum.ensures (search rules) (search rules) c.in_ok-x.was in
    x_to a.self (a.self.x.0 +ℤ a.by.0) k.0 (plain {w = w32} {z = c.in_ok-x.x} (search rules) ∙ k.1)
