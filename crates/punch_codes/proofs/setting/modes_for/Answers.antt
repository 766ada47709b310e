-- `punch_codes::setting::modes_for` meets its contract, mode by mode.
-- Assumes nothing.
use mathlib.Core.Path.{◌∙◌}
use borrow.Author.Rules.{rules}
use mir.Syntax.{w32}
use mir.Val.{SFits}
use Rattle.integers.specs.Bits.{plain}
use Rattle.punch_codes.specs.Codes.{upper_rail_of, upper_mag_of, tilt_down_of, upper_half_of, backward_to}
use Rattle.punch_codes.proofs.setting.modes_for.Goals as goal
use Rattle.punch_codes.proofs.setting.modes_for.Goals.{Start}

module _ (s : Start) where
  across-fits : SFits w32 s.args.across.0
  across-fits = search rules

  high_fits : SFits w32 s.args.c.height.0
  high_fits = search rules

  carriage-fits : SFits w32 s.args.s.carriage.0
  carriage-fits = search rules

  height-fits : SFits w32 s.args.s.height.0
  height-fits = search rules

pub returns : goal.returns
returns c =
    let a = c.args in
    let f = c.font_of-font.ensures in
    let e = c.backward_to.ensures ∙ (λ i. backward_to a.s.modes.escape_back (plain (carriage-fits (goal.at.returns c).Start) i) (plain (across-fits (goal.at.returns c).Start) i)) in
    let l = c.backward_to-2.ensures ∙ (λ i. backward_to a.s.modes.lead_back (plain (height-fits (goal.at.returns c).Start) i) (plain (high_fits (goal.at.returns c).Start) i)) in
    λ i. record { escape_back = e i; lead_back = l i; upper_half = upper_half_of a.c.code; upper_rail = upper_rail_of (f i); upper_mag = upper_mag_of (f i); tilt_down = tilt_down_of (f i) }
