-- `conversion::galley_to_old` meets its contract: what the check refuses is refused, and a checked galley is converted.
use Rattle.std.proofs.Common.{◌≡◌, length, refl, sym, ap, ◌∙◌, rules}
use Rattle.octets.specs.Answer.{accepted, outcome_of}
use Rattle.octets.specs.AnswerLaws.{gives, gives_same}
use Rattle.galley_check.specs.Low.{low_outcome}
use Rattle.galley_check.specs.LowLaws.{low_checked}
use Rattle.conversion.specs.Conversion.{old_result}
use Rattle.conversion.proofs.Forms.{old_refused, old_accepted}
use Rattle.conversion.proofs.galley_to_old.Goals as goal
use Rattle.conversion.proofs.galley_to_old.Goals.{In_ok-count}

counted : (c : In_ok-count) → accepted c.in_ok-count.count ≡ low_outcome c.args.new.now
counted c = sym (ap outcome_of c.in_ok-count.was) ∙ c.check_low.ensures

pub convert-requires : goal.convert-requires
convert-requires c = (low_checked _ _ (counted (goal.at.convert-requires c).In_ok-count)).checked

pub returns-in_err-count : goal.returns-in_err-count
returns-in_err-count c =
    let a = c.args in
    let q = old_refused a.new.now (length a.old.now) _ _ (sym (ap outcome_of c.in_err-count.was) ∙ c.check_low.ensures) in
    let same = gives {result = old_result a.new.now} {buffer = a.old.now} q refl refl in
    search rules

pub returns : goal.returns
returns c =
    let a = c.args in
    gives_same (old_accepted a.new.now (length a.old.now) _ (counted (goal.at.returns c).In_ok-count)) c.convert.ensures
