use Rattle.std.proofs.Common.{◌≡◌, sym, ap, ◌∙◌, rules}
use Rattle.octets.specs.Answer.{accepted, outcome_of}
use Rattle.galley_file.specs.declared.form.Form.TheVariants.{New}
use Rattle.galley_file.specs.FieldsLaws.{galley_fields}
use Rattle.galley_file.specs.Outcome.{check_outcome}
use Rattle.galley_check.specs.Accepted.{as_accepted}
use Rattle.galley_check.proofs.galley.CheckedGalley.of.Goals as goal

pub invariant_of-result : goal.invariant_of-result
invariant_of-result c =
    let a = c.args in
    let e : accepted c.in_ok-count.count ≡ check_outcome New a.bytes.now = sym (ap outcome_of c.in_ok-count.was) ∙ c.check_galley.ensures in
    record { accepted = as_accepted _ _ _ e; fields = galley_fields _ _ _ e (λ i. search rules) }
