-- `xgp_reader::read_xgp` meets its contract: the tests of the whole call, and then the two passes.
-- Assumes nothing.
use Rattle.std.specs.Prelude.{◌≡◌, ◌*◌, ◌≤◌, length, Err}
use Rattle.std.proofs.Common.{refl, sym, ap, ◌∙◌, eqb-true}
use Rattle.octets.specs.declared.refusal.Refusal.{Refusal}
use Rattle.octets.specs.Answer.{refused, number_in, outcome_of}
use Rattle.octets.specs.AnswerLaws.{gives, gives_same}
use Rattle.sheet.specs.Readable.{max_file, font_chars}
use Rattle.sheet.specs.ReadableLaws.{answer_refused, answer_passed}
use Rattle.octets.specs.AnswerLaws.{handed_on}
use Rattle.xgp.specs.Sheet.{four_fonts, xgp_result}
use Rattle.xgp.proofs.SheetLaws.{some_negative, readable}
use Rattle.xgp_reader.proofs.read_xgp.Goals as goal
use Rattle.xgp_reader.proofs.read_xgp.Goals.{After-has_negative}

pub returns-in_err-call_refusal : goal.returns-in_err-call_refusal
unfolding xgp_result
returns-in_err-call_refusal c =
    let a = c.args in
    gives (answer_refused a.file.now (four_fonts a.widths.now) c.in_err-call_refusal.ensures _)
    (ap outcome_of (handed_on {x = Err c.in_err-call_refusal.field-0.0} c.from_residual.ensures.1 refl)) refl

-- the file and the table are of lengths that are taken
passed : (c : After-has_negative) → (length c.args.file.now ≤ max_file) × (length c.args.widths.now ≡ 4 * font_chars)
passed c =
    let k = answer_passed c.args.file.now (four_fonts c.args.widths.now) c.in_ok-call_refusal.ensures in
    (k.0, eqb-true (length c.args.widths.now) (4 * font_chars) k.1)

pub returns-then-has_negative : goal.returns-then-has_negative
returns-then-has_negative c =
    let a = c.args in
    let p = passed (goal.at.returns-then-has_negative c).After-has_negative in
    gives (some_negative a.file.now a.spacing a.widths.now (length a.sheet.now) p.0 p.1 (sym c.has_negative.ensures ∙ c.if-has_negative.true))
    (ap (λ (r : Refusal). refused (number_in r.reason) r.place) c.at.ensures) refl

pub invariant_of-input : goal.invariant_of-input
invariant_of-input c = record { within = (passed (goal.at.invariant_of-input c).After-has_negative).0 }

-- and no width is negative
pub returns : goal.returns
returns c =
    let a = c.args in
    let p = passed (goal.at.returns c).After-has_negative in
    gives_same (readable a.file.now a.spacing a.widths.now (length a.sheet.now) p.0 p.1 (sym c.has_negative.ensures ∙ c.if-has_negative.false)) c.in_two_passes.ensures
