-- The postamble, made of extents.
--     marked_font      a font, if it is marked
--     head_bytes       what stands before the definitions
--     postamble_of     the postamble of a file with these extents: its height and width are their targets
--     HeldExtents     extents that a file can hold
use Rattle.std.specs.Prelude.{ℕ, cond, List, [], ◌∷◌, ◌++◌, ℤ, pos, ◌≤ℤ◌}
use Rattle.octets.specs.Octets.{signed_bytes}
use Rattle.measure.specs.Place.{low_end}
use Rattle.measure.specs.Target.{x_target, y_target}
use Rattle.dvi.specs.Command.{PST}
use Rattle.extents.specs.declared.Extents.{Extents}
use Rattle.extents.specs.FontMarks.{is_marked, marked_fonts}
use Rattle.dvi.specs.Writer.{definition_bytes, trailer_bytes}

unfoldable pub marked_font : ℕ → ℕ → ℕ → List ℕ
marked_font low high f = cond (is_marked low high f) (f ∷ []) []

-- PST, the last BOP's offset, height and width
unfoldable pub head_bytes : ℕ → ℤ → ℤ → List ℕ
head_bytes last y x = PST ∷ signed_bytes 4 (pos last) ++ (signed_bytes 4 y ++ signed_bytes 4 x)

unfoldable pub postamble_of : ℕ → ℕ → Extents → List ℕ
postamble_of last pst e =
    head_bytes last (y_target e.height.0) (x_target e.x.0)
    ++ (definition_bytes (marked_fonts 120 e.fonts.low e.fonts.high) ++ trailer_bytes pst)

pub record HeldExtents (e : Extents) : Type 0 where
  pub x_least : pos 0 ≤ℤ e.x.0
  pub x_most : e.x.0 ≤ℤ pos 3239
  pub height_least : pos 0 ≤ℤ e.height.0
  pub height_most : e.height.0 ≤ℤ low_end
