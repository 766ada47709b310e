-- `dvi_writer::plan::Plan::none` meets its contract: no byte, and the extents of no character.
-- Assumes nothing.
use mathlib.Core.Path.{refl}
use Rattle.dvi_writer.proofs.Passes.{plan_none}
use Rattle.dvi_writer.proofs.plan.Plan.none.Goals as goal

pub returns : goal.returns
returns c = plan_none _ refl c.none.ensures
