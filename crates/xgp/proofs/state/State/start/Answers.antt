-- `xgp::state::State::start` meets its contract.
-- Assumes nothing.
use Rattle.std.proofs.Common.{w32}
use Rattle.integers.specs.Bits.{returned}
use Rattle.xgp.specs.State.{start}
use Rattle.xgp.proofs.state.State.start.Goals as goal

pub returns : goal.returns
unfolding start
returns c = rw (returned w32 c.from.type_inv c.from.ensures)
