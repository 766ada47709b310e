-- `dvi::name::put_name` meets its contract: one write after the other.
-- Assumes nothing.
use mathlib.Core.Path.{ap}
use mathlib.Core.List.{[], ◌∷◌}
use Prim.Native.Nat.{ℕ, ◌+◌, ◌/◌, ◌%◌}
use Rattle.octets.specs.Write.{then, named}
use Rattle.dvi.specs.Writer.{name_of}
use Rattle.dvi.proofs.name.put_name.Goals as goal

pub returns : goal.returns
unfolding name_of
returns c =
    let size = c.point_size-size.ensures in
    let digit = named (ap (λ (n : ℕ). (48 + n) ∷ []) c.font_of.ensures) c.put_byte-to-2.ensures in
    let tens = named (ap (λ (n : ℕ). (48 + n / 10) ∷ []) size) c.put_byte-to-3.ensures in
    let units = named (ap (λ (n : ℕ). (48 + n % 10) ∷ []) size) c.put_byte.ensures in
    then c.put_byte-to.ensures (then digit (then tens units))
