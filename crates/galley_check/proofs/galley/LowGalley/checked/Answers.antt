use Rattle.galley_check.specs.Accepted.{as_accepted, low_as}
use Rattle.galley_check.specs.LowLaws.{low_checked}
use Rattle.galley_check.proofs.galley.LowGalley.checked.Goals as goal

pub invariant_of-result : goal.invariant_of-result
invariant_of-result c =
    let g = c.args.self in
    record { accepted = as_accepted _ _ _ (low_checked _ _ (low_as _ _ g.low)).checked; fields = g.fields }
