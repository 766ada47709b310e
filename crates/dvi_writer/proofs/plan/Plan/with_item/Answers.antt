-- `dvi_writer::plan::Plan::with_item` meets its contract: the length and the extents are kept each by itself.
-- Assumes nothing.
use mathlib.Core.Path.{ap}
use Prim.Native.Nat.{ℕ, ◌+◌}
use Rattle.dvi_writer.proofs.Galleys.{raised_one}
use Rattle.dvi_writer.proofs.plan.Plan.with_item.Goals as goal

pub item_length-requires : goal.item_length-requires
item_length-requires c = (c.requires.0.1, c.requires.1)

pub with_item-requires : goal.with_item-requires
with_item-requires c = raised_one c.args.i c.requires.0.1

pub returns : goal.returns
returns c = (ap (λ (n : ℕ). c.args.self.length + n) c.item_length.ensures.0, c.with_item.ensures)
