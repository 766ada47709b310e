-- `punch_codes::setting::begun_from` meets its contract: initialize, and the carriage off the switch.
-- Assumes nothing.
use mathlib.Core.Path.{ap}
use Rattle.typesetter.specs.declared.machine.State.{State}
use Rattle.typesetter.specs.Machine.{origin, off_switch_at}
use Rattle.punch_codes.proofs.setting.begun_from.Goals as goal

pub returns : goal.returns
returns c = ap (λ (t : State). off_switch_at t origin) c.after_initialize.ensures
