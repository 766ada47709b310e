-- `conversion::galley_to_new` meets its contract: what the check refuses is refused, and a checked galley is converted.
use Rattle.std.proofs.Common.{◌≡◌, length, refl, sym, ap, ◌∙◌, rules}
use Rattle.octets.specs.Answer.{accepted, outcome_of}
use Rattle.octets.specs.AnswerLaws.{gives, gives_same}
use Rattle.galley_file.specs.declared.form.Form.TheVariants.{Old}
use Rattle.galley_file.specs.Outcome.{check_outcome}
use Rattle.conversion.specs.Conversion.{new_result}
use Rattle.conversion.proofs.Forms.{new_refused, new_accepted}
use Rattle.conversion.proofs.galley_to_new.Goals as goal
use Rattle.conversion.proofs.galley_to_new.Goals.{In_ok-count}

counted : (c : In_ok-count) → accepted c.in_ok-count.count ≡ check_outcome Old c.args.old.now
counted c = sym (ap outcome_of c.in_ok-count.was) ∙ c.check_form.ensures

pub convert-requires : goal.convert-requires
convert-requires c = counted (goal.at.convert-requires c).In_ok-count

pub returns-in_err-count : goal.returns-in_err-count
returns-in_err-count c =
    let a = c.args in
    let q = new_refused a.old.now (length a.new.now) _ _ (sym (ap outcome_of c.in_err-count.was) ∙ c.check_form.ensures) in
    let same = gives {result = new_result a.old.now} {buffer = a.new.now} q refl refl in
    search rules

pub returns : goal.returns
returns c =
    let a = c.args in
    gives_same (new_accepted a.old.now (length a.new.now) _ (counted (goal.at.returns c).In_ok-count)) c.convert.ensures
