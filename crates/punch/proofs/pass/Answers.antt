-- `punch::pass` meets its contract: the start, the items and stop.
-- Assumes nothing.
use Rattle.punch.proofs.Passes.{start_space, items_space, stop_space, all_put}
use Rattle.punch.proofs.pass.Goals as goal

pub put_start-requires : goal.put_start-requires
put_start-requires c = start_space _ _ _ c.requires

pub put_items-next-requires : goal.put_items-next-requires
put_items-next-requires c = items_space _ _ _ c.requires _ _ c.put_start.ensures

pub put_code-requires : goal.put_code-requires
put_code-requires c = let q = c.put_items-next.ensures in stop_space _ _ _ c.requires _ _ c.put_start.ensures _ _ q.0 q.1

pub returns : goal.returns
returns c = all_put _ _ _ c.requires _ _ c.put_start.ensures _ _ c.put_items-next.ensures.0 _ _ c.put_code.ensures
