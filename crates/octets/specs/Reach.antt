-- The code's sums and differences.
use Rattle.std.specs.Prelude.{Bool, true, false, ℤ, Option, Some, None}
use Rattle.octets.specs.Octets.{fits32}

abbrev pub reach_if : Bool → ℤ → Option ℤ
reach_if true z = Some z
reach_if false z = None

-- z where 32 bits hold it
unfoldable pub reach : ℤ → Option ℤ
reach z = reach_if (fits32 z) z
