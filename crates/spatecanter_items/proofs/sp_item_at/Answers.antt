-- `spatecanter_items::sp_item_at` meets its contract: it hands over the numbers of the answer and of the item.
-- Assumes nothing.
use mathlib.Core.Path.{ap, ◌∙◌}
use Rattle.octets.specs.Answer.{numbers_of}
use Rattle.galley_items.specs.Here.{HereOutcome, outcome_of_here, here_numbers}
use Rattle.spatecanter_items.proofs.sp_item_at.Goals as goal

pub returns : goal.returns
returns c =
    let r = c.item_at-here.ensures in
    (c.here_numbers.ensures ∙ ap (λ (h : HereOutcome). numbers_of (outcome_of_here h)) r, c.here_item.ensures ∙ ap here_numbers r)
