-- `spatecanter::sp_read_back` meets its contract: it hands over the numbers of the answer and of the character.
-- Assumes nothing.
use mathlib.Core.Path.{ap, ◌∙◌}
use borrow.Author.Rules.{rules}
use Rattle.galley_check.specs.Found.{FoundOutcome, outcome_of_found}
use Rattle.octets.specs.Answer.{numbers_of}
use Rattle.spatecanter.specs.Numbers.{found_numbers}
use Rattle.spatecanter.proofs.sp_read_back.Goals as goal

pub returns : goal.returns
returns c =
    let r = c.read_back-found.ensures in
    (c.found_numbers.ensures ∙ ap (λ (f : FoundOutcome). numbers_of (outcome_of_found f)) r, c.found_character.ensures ∙ ap found_numbers r)
