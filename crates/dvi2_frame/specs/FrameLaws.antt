-- How long the commands around the pages are, and what post is.
-- Assumes nothing.
use Rattle.std.specs.Prelude.{◌≡◌, refl, ℕ, ◌≤◌, ℤ, pos, ◌*ℤ◌, length, ◌≤ℤ◌, List, map}
use Rattle.std.proofs.Common.{sym, ap, ◌∙◌, arith}
use Rattle.integers.specs.Parts.{integers, scale_parts}
use Rattle.octets.specs.Octets.{bytes, signed_bytes}
use Rattle.measure.specs.Place.{height_end}
use Rattle.galley_file.specs.declared.item.Item.{Item}
use Rattle.galley_file.specs.Item.{characters_of}
use Rattle.galley_file.specs.CharacterLaws.{valid_parts, x_range, height_range}
use Rattle.galley_file.specs.Galley.{AllValid}
use Rattle.extents.specs.declared.Extents.{Extents}
use Rattle.extents.specs.Extents.{largest, x_in, height_in, ExtentsAre}
use Rattle.extents.proofs.ExtentsLaws.{largest_target, largest_least, largest_most}
use Rattle.dvi2.specs.Writer.{v_of, unit_bytes, preamble_bytes, post_bytes}
use Rattle.dvi2_frame.specs.Frame.{Ranged, post_with, post_of, post_post_of}

pub length_preamble : length preamble_bytes ≡ 15
unfolding preamble_bytes unit_bytes bytes
length_preamble = refl

pub length_post : (last : ℕ) (height width : ℤ) (pages : ℕ) → length (post_with last height width pages) ≡ 29
unfolding post_with unit_bytes bytes signed_bytes
length_post last height width pages = refl

pub post_most : (last : ℕ) (height width : ℤ) (pages : ℕ) → length (post_with last height width pages) ≤ 29
post_most last height width pages = omega (arith, length_post last height width pages)

pub length_post_post : (post : ℕ) → length (post_post_of post) ≡ 6
unfolding post_post_of bytes
length_post_post post = refl

-- ---- the extents of a file's characters

module _ (e : Extents) (is : List Item) (a : ExtentsAre e (characters_of is)) where
  three : (a b : ℤ) → a ≤ℤ b → (pos 3 *ℤ a) ≤ℤ (pos 3 *ℤ b)
  three a b h = omega (integers, h, scale_parts 3 a, scale_parts 3 b)

  heights_are : pos 3 *ℤ e.height.0 ≡ largest (map v_of (characters_of is))
  heights_are = ap (λ (z : ℤ). pos 3 *ℤ z) a.height_is ∙ sym (largest_target (λ z. pos 3 *ℤ z) three height_in refl (characters_of is))

  -- post is that of the characters
  pub post_is : (last pages : ℕ) → post_of last e pages ≡ post_bytes last pages (characters_of is)
  unfolding post_with post_bytes
  post_is last pages = (λ i. post_with last (heights_are i) (a.x_is i) pages)

  pub ranged : AllValid height_end is → Ranged e
  ranged v =
      record {
        left = rw a.x_is (largest_least (map x_in (characters_of is)));
        right = rw a.x_is (largest_most x_in (pos 3239) (λ c w. (x_range (valid_parts w)).1) is v (omega integers));
        low = rw a.height_is (largest_least (map height_in (characters_of is)));
        high = rw a.height_is (largest_most height_in height_end (λ c w. (height_range (valid_parts w)).1) is v (omega integers));
      }
