-- The code's two measures: a number of dots across, and one of scan lines down.
use Rattle.std.specs.Prelude.{ℤ}
use Rattle.xgp_code.specs.declared.measure.Dots.{Dots}
use Rattle.xgp_code.specs.declared.measure.Lines.{Lines}

abbrev pub in_dots : ℤ → Dots
in_dots z = record { 0 = z }

abbrev pub in_lines : ℤ → Lines
in_lines z = record { 0 = z }
