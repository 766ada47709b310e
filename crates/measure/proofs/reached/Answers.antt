-- `measure::reached` meets its contract: the test of the range says where the move ends, and what is in range fits.
-- Assumes nothing.
use mathlib.Core.Path.{◌≡◌, sym, ◌∙◌}
use lib.IntN.{ℤ, ◌+ℤ◌}
use mir.Syntax.{w32, w64}
use mir.Val.{SFits, to_z, of_z}
use Rattle.integers.specs.Parts.{integers, bounds}
use Rattle.integers.specs.Bits.{plain, returned}
use Rattle.measure.specs.Place.{directed_by, within, reached}
use Rattle.measure.specs.PlaceLaws.{within_range}
use Rattle.measure.proofs.reached.Goals as goal
use Rattle.measure.proofs.reached.Goals.{After-is_within, Then-is_within}

-- where the move leads, and what the test says of it
module _ (c : After-is_within) where
  abbrev to : ℤ
  to =
      let a = c.args in
      a.at +ℤ directed_by a.backward a.by

  leads : to_z w64 (of_z w64 c.moved-to.result) ≡ to
  leads =
      let f = c.ranges.at in
      let d = c.directed in
      returned w64 c.moved-to.type_inv (rw (plain f, returned w32 d.type_inv d.ensures) at c.moved-to.ensures)

  tested : c.is_within.result ≡ within c.args.top to
  tested = c.is_within.ensures ∙ (λ i. within (plain c.ranges.top i) (leads i))

fits : (c : Then-is_within) → SFits w32 (to c.before)
fits c =
    let r = within_range c.args.top (to c.before) (sym (tested c.before) ∙ c.if-is_within.true) in
    omega (integers, r.low, r.high, bounds c.ranges.top)

pub returns-then-is_within : goal.returns-then-is_within
unfolding reached
returns-then-is_within c = rw (leads (goal.at.returns-then-is_within c).After-is_within, plain (fits c), sym (tested (goal.at.returns-then-is_within c).After-is_within), c.if-is_within.true)

pub returns-else-is_within : goal.returns-else-is_within
unfolding reached
returns-else-is_within c = rw (sym (tested (goal.at.returns-else-is_within c).After-is_within), c.if-is_within.false)
