use Rattle.std.proofs.Common.{◌≡◌, ◌∙◌, ap}
use Rattle.galley_check.specs.Accepted.{low_as}
use Rattle.galley_check.specs.Low.{low_outcome}
use Rattle.galley_check.proofs.check_low.Goals as goal

pub returns : goal.returns
returns c =
    let g = c.in_ok-of.field-0 in
    let k : g.bytes.now ≡ c.args.g.now = rw c.in_ok-of.was at c.of.ensures in
    low_as _ _ g.low ∙ ap low_outcome k
