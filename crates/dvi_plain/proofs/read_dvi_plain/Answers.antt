-- `dvi_plain::read_dvi_plain` meets its contract: the tests of the whole call, and then the two passes.
-- Assumes nothing.
use Rattle.std.proofs.Common.{◌≡◌, refl, sym, ◌∙◌, true, ◌≤◌, length, Err}
use Rattle.octets.specs.Answer.{outcome_of, if_room, no_sheet_room}
use Rattle.octets.specs.AnswerLaws.{gives, gives_same, gives_answer, handed_on}
use Rattle.sheet.specs.Readable.{max_file}
use Rattle.sheet.specs.ReadableLaws.{answer_refused, answer_passed, readable}
use Rattle.sheet.specs.Shown.{shown_result}
use Rattle.dvi.specs.File.{read_dvi}
use Rattle.dvi.specs.Sheet.{whole_fonts, sheet_result}
use Rattle.dvi_plain.proofs.read_dvi_plain.Goals as goal
use Rattle.dvi_plain.proofs.read_dvi_plain.Goals.{In_ok-call_refusal}

pub returns-in_err-call_refusal : goal.returns-in_err-call_refusal
unfolding sheet_result
returns-in_err-call_refusal c =
    let a = c.args in
    gives_answer (handed_on {x = Err c.in_err-call_refusal.field-0.0} c.from_residual.ensures.1 refl)
    (gives (answer_refused a.dvi.now (whole_fonts a.widths.now) (sym c.in_err-call_refusal.was ∙ c.call_refusal.ensures) _) refl refl)

-- the tests of the whole call are passed
passed : (c : In_ok-call_refusal) → (length c.args.dvi.now ≤ max_file) × (whole_fonts c.args.widths.now ≡ true)
passed c = answer_passed c.args.dvi.now (whole_fonts c.args.widths.now) (sym c.in_ok-call_refusal.was ∙ c.call_refusal.ensures)

pub invariant_of-in_two_passes : goal.invariant_of-in_two_passes
invariant_of-in_two_passes c = record { within = (passed (goal.at.invariant_of-in_two_passes c).In_ok-call_refusal).0 }

pub returns : goal.returns
unfolding sheet_result
returns c =
    let a = c.args in
    let p = passed (goal.at.returns c).In_ok-call_refusal in
    gives_same (readable a.dvi.now (whole_fonts a.widths.now) _ p.0 p.1) c.in_two_passes.ensures
