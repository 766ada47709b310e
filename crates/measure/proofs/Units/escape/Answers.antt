-- `measure::Units::escape` meets its contract: the place is made of what the move reached.
-- Assumes nothing.
use Rattle.std.proofs.Common.{rules, sym, ap, ◌∙◌, ◌≡◌, ℤ, ◌+ℤ◌, SFits}
use Rattle.std.specs.Int.{w32}
use Rattle.integers.specs.Bits.{plain}
use Rattle.measure.specs.declared.Units.{Units}
use Rattle.measure.specs.Place.{carriage_end, directed_by, reached, carriage_at}
use Rattle.measure.specs.PlaceLaws.{reached_place, reached_none}
use Rattle.measure.proofs.Units.escape.Goals as goal
use Rattle.measure.proofs.Units.escape.Goals.{After-reached}

abbrev made : ℤ → Units
made z = record { 0 = z }

-- what was reached, of the numbers themselves
reached_is : (c : After-reached) → c.reached.result ≡ reached carriage_end (c.args.self.0 +ℤ directed_by c.args.backward c.args.by)
reached_is c = let f : SFits w32 c.args.self.0 = search rules in c.reached.ensures ∙ ap (λ (z : ℤ). reached carriage_end (z +ℤ directed_by c.args.backward c.args.by)) (plain f)

pub returns-in_err-to : goal.returns-in_err-to
unfolding carriage_at
returns-in_err-to c =
    c.from_residual.ensures
    ∙ reached_none made carriage_end _ (sym (reached_is (goal.at.returns-in_err-to c).After-reached) ∙ c.in_err-to.was)

pub returns : goal.returns
unfolding carriage_at
returns c =
    let f : SFits w32 c.in_ok-to.to = search rules in
    rw (plain f) (reached_place made carriage_end _ (sym (reached_is (goal.at.returns c).After-reached) ∙ c.in_ok-to.was))
