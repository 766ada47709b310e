-- The measures of the cycle {read_item, read_run}: twice the allowed depth, and for a run one more. The loop of a run over its items has the
-- invariant of `Going`; its measure is what is left of the slice.
use mathlib.Core.List.{List, []}
use Prim.Native.Nat.{◌+◌, ◌*◌, ◌-◌}
use lib.ListN.{length}
use Rattle.sheet.specs.Sheet.{Mark}
use Rattle.dvi_page.specs.Page.{page_of}
use Rattle.dvi_brackets.proofs.Going.{Going}
use Rattle.dvi_brackets.proofs.+read_item_read_run.Given as goal

abbrev pub decreases-read_item : goal.decreases-read_item
decreases-read_item l = 2 * l.depth

abbrev pub decreases-read_run : goal.decreases-read_run
decreases-read_run l = 2 * l.depth + 1

abbrev pub invariant-read_run-loop-i : goal.invariant-read_run-loop-i
invariant-read_run-loop-i l =
    (ms : List Mark) × Going l.widths l.depth l.at (page_of l.initial.q []) l.s l.writing l.initial.out l.to l.count (page_of l.q []) l.i ms l.out l.t l.c

abbrev pub decreases-read_run-loop-i : goal.decreases-read_run-loop-i
decreases-read_run-loop-i l = length l.s - l.i
