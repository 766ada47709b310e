-- `report::count_tape` meets its contract: 47 first, and then what the tape adds, added to each entry.
-- Assumes nothing.
use Rattle.std.proofs.Common.{Bool, cond, get_or, sym, ap, ◌∙◌, arith, le-ltb, lt-ltb}
use Rattle.std.specs.Prelude.{Err}
use Rattle.octets.specs.Answer.{outcome_of, accepted, refused, report_full}
use Rattle.figures.specs.Figures.{figures_of}
use Rattle.report.specs.Report.{amount, added, max_tapes, report_outcome, counted_in}
use Rattle.report.proofs.count_tape.Goals as goal

pub returns-then-report-ge-MAX_TAPES : goal.returns-then-report-ge-MAX_TAPES
unfolding report_outcome counted_in
returns-then-report-ge-MAX_TAPES c = let a = c.args in
    let t = le-ltb (get_or a.report.now 0 0) max_tapes (omega (arith, c.if-report-ge-MAX_TAPES.true)) in (
      ap outcome_of (ap Err c.at.ensures) ∙ sym (ap (λ (u : Bool). cond u (accepted 0) (refused report_full 0)) t),
      sym (ap (λ (u : Bool). cond u (added (amount (figures_of a.tape.now a.machine)) 0 135 a.report.now) a.report.now) t),
    )

pub returns : goal.returns
unfolding report_outcome counted_in
returns c = let a = c.args in
    let t = lt-ltb (get_or a.report.now 0 0) max_tapes (omega (arith, c.if-report-ge-MAX_TAPES.false)) in (
      sym (ap (λ (u : Bool). cond u (accepted 0) (refused report_full 0)) t),
      c.add.ensures (figures_of a.tape.now a.machine) c.tally_tape-tally.ensures
          ∙ sym (ap (λ (u : Bool). cond u (added (amount (figures_of a.tape.now a.machine)) 0 135 a.report.now) a.report.now) t),
    )
