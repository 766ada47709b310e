-- `xgp::state::State::next_page` meets its contract.
-- Assumes nothing.
use Rattle.std.proofs.Common.{w32}
use Rattle.integers.specs.Bits.{returned}
use Rattle.xgp.specs.State.{next_page}
use Rattle.xgp.proofs.state.State.next_page.Goals as goal

pub returns : goal.returns
unfolding next_page
returns c = rw (returned w32 c.from.type_inv c.from.ensures)
