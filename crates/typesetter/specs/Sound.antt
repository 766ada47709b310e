-- A state whose carriage and height are in range: what every run from the start keeps.
use Rattle.measure.specs.Place.{carriage_end, height_end}
use Rattle.measure.specs.PlaceLaws.{InRange}
use Rattle.typesetter.specs.declared.machine.State.{State}

pub record Sound (s : State) : Type 0 where
  pub carriage_in : InRange carriage_end s.carriage.0
  pub height_in_lem : InRange height_end s.height.0
