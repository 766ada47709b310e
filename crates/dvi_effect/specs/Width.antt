-- The width that the lent table has of a character.
--     lent_width     the width, if there is one
use Rattle.std.proofs.Math.Option.{Option, none, some}
use Rattle.std.specs.Prelude as P
use Rattle.std.specs.Prelude.{ℤ, Some, None}
use Rattle.measure.specs.declared.Rsu.{Rsu}

abbrev pub lent_width : P.Option Rsu → Option ℤ
lent_width (Some w) = some w.0
lent_width None = none
