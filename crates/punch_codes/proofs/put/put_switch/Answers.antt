-- `punch_codes::put::put_switch` meets its contract, case by case.
-- Assumes nothing.
use mathlib.Core.Path.{sym}
use Rattle.octets.specs.Write.{put_named, put_none}
use Rattle.octets.specs.Space.{space_named}
use Rattle.punch_codes.proofs.Sends.{switch_none, switch_on, switch_off}
use Rattle.punch_codes.proofs.put.put_switch.Goals as goal

pub put_code-requires : goal.put_code-requires
put_code-requires c = space_named (switch_on _ _ _ _ c.if-old-new.false c.if-new.true) c.requires

pub put_code-requires-else-new : goal.put_code-requires-else-new
put_code-requires-else-new c = space_named (switch_off _ _ _ _ c.if-old-new.false c.if-new.false) c.requires

pub returns-then-old-new : goal.returns-then-old-new
returns-then-old-new c = put_named (sym (switch_none _ _ _ _ c.if-old-new.true)) (put_none _ _ _)

pub returns-then-new : goal.returns-then-new
returns-then-new c = put_named (sym (switch_on _ _ _ _ c.if-old-new.false c.if-new.true)) c.put_code.ensures

pub returns-else-new : goal.returns-else-new
returns-else-new c = put_named (sym (switch_off _ _ _ _ c.if-old-new.false c.if-new.false)) c.put_code-else-new.ensures
