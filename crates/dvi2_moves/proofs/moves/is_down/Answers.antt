-- `dvi2_moves::moves::is_down` meets its contract.
-- Assumes nothing.
use mathlib.Core.Path.{sym, ◌∙◌}
use Rattle.integers.specs.Bits.{plain}
use Rattle.dvi2_state.proofs.Searches.{no_truth}
use Rattle.dvi2_moves.proofs.CodeSteps.{not_down, too_low, down_is}
use Rattle.dvi2_moves.proofs.moves.is_down.Goals as goal
use Rattle.dvi2_moves.proofs.moves.is_down.Goals.{then-t-ge0, else-t-ge0}

pub returns-then-t-le-LOWEST : goal.returns-then-t-le-LOWEST
returns-then-t-le-LOWEST c =
    let f = plain c.ranges.t in
    elim c.if-t-ge0.branch [
      | then-t-ge0 w ↦ rw f (down_is c.args.t (rw f at w.if-t-ge0.true) (rw f at (sym w.value-is ∙ c.if-t-le-LOWEST.true)))
      | else-t-ge0 w ↦ no_truth _ (sym w.value-is ∙ c.if-t-le-LOWEST.true) w.if-t-ge0.false
    ]

pub returns-else-t-le-LOWEST : goal.returns-else-t-le-LOWEST
returns-else-t-le-LOWEST c =
    let f = plain c.ranges.t in
    elim c.if-t-ge0.branch [
      | then-t-ge0 w ↦ c.if-t-le-LOWEST.false ∙ too_low c.args.t (rw f at (sym w.value-is ∙ c.if-t-le-LOWEST.false))
      | else-t-ge0 w ↦ c.if-t-le-LOWEST.false ∙ not_down c.args.t (rw f at w.if-t-ge0.false)
    ]
