-- The code's places and items as those of the definitions.
--     across_of, down_of, taken_of      what each case of an answer stands for
use Rattle.std.specs.Prelude as P
use Rattle.std.specs.Prelude.{◌≡◌, true, ℤ, Some, None}
use Rattle.std.proofs.Math.Option.{Option, none, some}
use Rattle.measure.specs.Place.{height_end, within}
use Rattle.measure.specs.declared.Units.{Units}
use Rattle.measure.specs.declared.Quanta.{Quanta}
use Rattle.galley_file.specs.declared.item.Item.{Item}

abbrev pub across_of : P.Option Units → Option ℤ
across_of (Some x) = some x.0
across_of None = none

abbrev pub down_of : P.Option Quanta → Option ℤ
down_of (Some h) = some h.0
down_of None = none

-- the height found is one that a galley holds
abbrev pub InHeights : P.Option Quanta → Type 0
InHeights (Some h) = within height_end h.0 ≡ true
InHeights None = Unit {0}

abbrev pub taken_of : P.Option Item → Option Item
taken_of (Some i) = some i
taken_of None = none
