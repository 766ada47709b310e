-- What a call on a running tape gives back.
--     kept_number, kept_place     of a refusal: one that is repeated has its number and place as they were kept
--     outcome_in                  the outcome of an answer
use Rattle.std.specs.Prelude.{ℕ, Result}
use Rattle.octets.specs.Answer.{Outcome, outcome_by, number_in}
use Rattle.running.specs.declared.Refused.{Refused}
use Rattle.running.specs.declared.Refused.TheVariants.{Now, Again}

abbrev pub kept_number : Refused → ℕ
kept_number (Now r) = number_in r.reason
kept_number (Again number place) = number

abbrev pub kept_place : Refused → ℕ
kept_place (Now r) = r.place
kept_place (Again number place) = place

abbrev pub outcome_in : Result ℕ Refused → Outcome
outcome_in = outcome_by (λ (n : ℕ). n) kept_number kept_place
