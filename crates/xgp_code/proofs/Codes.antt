-- A refusal that is handed on, and the number of a column.
-- Assumes nothing.
use Rattle.std.specs.Prelude.{◌≡◌, ℕ, ◌+◌, ◌*◌, ◌<◌, ℤ, pos, ◌+ℤ◌, ◌*ℤ◌}
use Rattle.std.proofs.Common.{w32}
use mir.Val.{SFits, to_z, of_z}
use Rattle.integers.specs.Parts.{integers}
use Rattle.integers.specs.Bits.{plain}

-- the code's number of two bytes of seven bits
pub two_bytes : (h l : ℕ) {x y : ℤ} → h < 128 → l < 128 → x ≡ pos h → y ≡ pos l → to_z w32 (of_z w32 (to_z w32 (of_z w32 (pos 128 *ℤ to_z w32 (of_z w32 x))) +ℤ to_z w32 (of_z w32 y))) ≡ pos (128 * h + l)
two_bytes h l {x} {y} p q d e =
    let f : SFits w32 (pos h) = omega integers in
    let g : SFits w32 (pos l) = omega integers in
    let j : SFits w32 (pos (128 * h)) = omega integers in
    let k : SFits w32 (pos (128 * h + l)) = omega integers in
    rw (d, e, plain f, plain g, plain j, plain k)
