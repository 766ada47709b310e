-- post and post_post, made of what the code knows.
--     Ranged         extents of characters of any height
--     post_with       post, of the last bop, height, width and number of pages; post_of of the extents
--     post_post_of     post_post, of post's offset
use Rattle.std.specs.Prelude.{ℕ, ◌%◌, List, [], ◌∷◌, ◌++◌, ℤ, pos, ◌*ℤ◌, ◌≤ℤ◌}
use Rattle.octets.specs.Octets.{bytes, signed_bytes}
use Rattle.measure.specs.Place.{height_end}
use Rattle.extents.specs.declared.Extents.{Extents}
use Rattle.dvi2.specs.Command.{POST, POSTPOST}
use Rattle.dvi2.specs.Writer.{unit_bytes}

pub record Ranged (e : Extents) : Type 0 where
  pub left : pos 0 ≤ℤ e.x.0
  pub right : e.x.0 ≤ℤ pos 3239
  pub low : pos 0 ≤ℤ e.height.0
  pub high : e.height.0 ≤ℤ height_end

unfoldable pub post_with : ℕ → ℤ → ℤ → ℕ → List ℕ
post_with last height width pages =
    POST ∷ bytes 4 last ++ (unit_bytes ++ (signed_bytes 4 height ++ (signed_bytes 4 width ++ (bytes 2 0 ++ bytes 2 (pages % 65536)))))

abbrev pub post_of : ℕ → Extents → ℕ → List ℕ
post_of last e pages = post_with last (pos 3 *ℤ e.height.0) e.x.0 pages

unfoldable pub post_post_of : ℕ → List ℕ
post_post_of post = POSTPOST ∷ bytes 4 post ++ (2 ∷ [])
