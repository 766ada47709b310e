-- Moves of the carriage and of the height (document 01, "Tape codes"; document 02, "Longer columns"): a move ends at a place in its range, or outside it.
--     directed_by      a distance, negative where it goes backward
--     carriage_at      where the carriage stands: 0 to 3,239, or none, outside
--     height_at        the height: 0 to 1,000,000, or none, outside
--     reached          where a move ends in a range, or none, outside
--     low_end          the greatest height that a DVI file holds
use Rattle.std.specs.Prelude.{Bool, true, false, cond, ◌&&◌, ℕ, ℤ, pos, neg_ℤ, Option, Some, None}
use Rattle.std.specs.Int.Signed.{le_z}
use Rattle.measure.specs.declared.Units.{Units}
use Rattle.measure.specs.declared.Quanta.{Quanta}

-- the last place of the carriage, and the greatest height
abbrev pub carriage_end : ℤ
carriage_end = pos 3239

abbrev pub height_end : ℤ
height_end = pos 1000000

-- the greatest height that a DVI file holds (document 02, "Longer columns")
abbrev pub low_end : ℤ
low_end = pos 65535

unfoldable pub directed_by : Bool → ℕ → ℤ
directed_by true n = neg_ℤ (pos n)
directed_by false n = pos n

-- 0 ≤ z ≤ top
abbrev pub within : ℤ → ℤ → Bool
within top z = le_z (pos 0) z && le_z z top

-- z, if it is in 0 to top
unfoldable pub reached : ℤ → ℤ → Option ℤ
reached top z = cond (within top z) (Some z) None

unfoldable pub carriage_at : ℤ → Option Units
carriage_at z = cond (within carriage_end z) (Some (record { 0 = z })) None

unfoldable pub height_at : ℤ → Option Quanta
height_at z = cond (within height_end z) (Some (record { 0 = z })) None
