-- The postamble of the extents of characters is theirs, and a file holds them.
-- Assumes nothing.
use Rattle.std.specs.Prelude.{◌≡◌, refl, List, map, ℕ, ℤ, pos, ◌≤ℤ◌}
use Rattle.std.proofs.Common.{arith}
use Rattle.integers.specs.Parts.{integers}
use Rattle.octets.specs.Octets.{bytes, signed_bytes}
use Rattle.measure.specs.Place.{low_end}
use Rattle.measure.specs.Target.{x_target, y_target}
use Rattle.measure.proofs.TargetLaws.{target_parts, y_parts}
use Rattle.galley_file.specs.declared.character.Character.{Character}
use Rattle.galley_file.specs.declared.item.Item.{Item}
use Rattle.galley_file.specs.CharacterLaws.{valid_parts, x_range, height_range}
use Rattle.galley_file.specs.Item.{characters_of}
use Rattle.galley_file.specs.Galley.{AllValid}
use Rattle.extents.specs.declared.Extents.{Extents}
use Rattle.extents.specs.Extents.{largest, x_in, height_in, ExtentsAre}
use Rattle.extents.proofs.ExtentsLaws.{largest_target, largest_least, largest_most}
use Rattle.extents.proofs.FontMarksLaws.{fonts_marked}
use Rattle.dvi.specs.Writer.{x_target_of, y_target_of, postamble_bytes}
use Rattle.dvi_frame.specs.Postamble.{head_bytes, postamble_of, HeldExtents}

-- the largest target is the target of the largest
x_keeps : (a b : ℤ) → a ≤ℤ b → x_target a ≤ℤ x_target b
x_keeps a b h = omega (integers, h, target_parts a, target_parts b)

y_keeps : (a b : ℤ) → a ≤ℤ b → y_target a ≤ℤ y_target b
y_keeps a b h = omega (integers, h, y_parts a, y_parts b)

width_is : (cs : List Character) → largest (map x_target_of cs) ≡ x_target (largest (map x_in cs))
unfolding x_target
width_is cs = largest_target x_target x_keeps x_in refl cs

tallness_is : (cs : List Character) → largest (map y_target_of cs) ≡ y_target (largest (map height_in cs))
unfolding y_target
tallness_is cs = largest_target y_target y_keeps height_in refl cs

pub post_is : (last pst : ℕ) (e : Extents) (cs : List Character) → ExtentsAre e cs → postamble_of last pst e ≡ postamble_bytes last pst cs
unfolding postamble_of head_bytes postamble_bytes signed_bytes bytes
post_is last pst e cs a =
    rw (width_is cs, tallness_is cs, a.x_is, a.height_is, fonts_marked e.fonts.low e.fonts.high cs a.fonts_are 120 (omega arith))

-- a file holds the extents of items of low heights
pub extents_held : (e : Extents) (is : List Item) → AllValid low_end is → ExtentsAre e (characters_of is) → HeldExtents e
extents_held e is v a =
    let cs = characters_of is in
    record {
      x_least = rw a.x_is (largest_least (map x_in cs));
      x_most = rw a.x_is (largest_most x_in (pos 3239) (λ c k. (x_range (valid_parts k)).1) is v (omega integers));
      height_least = rw a.height_is (largest_least (map height_in cs));
      height_most = rw a.height_is (largest_most height_in low_end (λ c k. (height_range (valid_parts k)).1) is v (omega integers));
    }
