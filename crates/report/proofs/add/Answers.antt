-- `report::add` meets its contract: the entries behind have what the tape adds, whatever its figures.
-- Assumes nothing.
use Rattle.std.proofs.Common.{ℕ, get_or, refl, ap}
use Rattle.figures.specs.Figures.{sum64}
use Rattle.report.specs.Report.{amount, added}
use Rattle.report.proofs.Entries.{added_next}
use Rattle.report.proofs.add.Goals as goal

pub loop-i-init : goal.loop-i-init
unfolding added
loop-i-init c = λ f r. refl

pub loop-i-preserved : goal.loop-i-preserved
loop-i-preserved c = let l = c.loop-i in
    λ f r. added_next (amount f) l.i c.args.report.now l.report (l.invariant f r) _ (ap (λ (n : ℕ). sum64 (get_or l.report l.i 0) n) (c.amount_of.ensures f r))
