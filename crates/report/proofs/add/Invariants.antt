use Rattle.std.proofs.Common.{◌≡◌}
use Rattle.figures.specs.Figures.{Figures}
use Rattle.report.specs.Report.{amount, added}
use Rattle.figures.specs.Counting.{Tallied}
use Rattle.report.proofs.add.Given as goal

abbrev pub invariant-loop-i : goal.invariant-loop-i
invariant-loop-i l = (f : Figures) → Tallied f l.tally l.fonts → l.report ≡ added (amount f) 0 l.i l.initial.report
