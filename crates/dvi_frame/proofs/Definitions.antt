-- The definitions of marked fonts, one font more at a time, and how long a postamble is.
-- Assumes nothing.
use mathlib.Core.Path.{◌≡◌, refl, ap}
use mathlib.Core.List.{◌++◌}
use Prim.Native.Nat.{ℕ, zero, suc, ◌+◌, ◌-◌, ◌≤◌, ◌<◌}
use native.Mathlib.Nat.{add-zero}
use native.Mathlib.Numerals.{add-one}
use native.Mathlib.Omega.{arith}
use lib.IntN.{ℤ}
use lib.ListN.{length, length-append}
use Rattle.octets.specs.Octets.{bytes, signed_bytes}
use Rattle.extents.specs.declared.Extents.{Extents}
use Rattle.extents.specs.FontMarks.{marked_fonts}
use Rattle.dvi.specs.Writer.{definition_bytes, trailer_bytes}
use Rattle.dvi.proofs.WriterLaws.{definitions_append}
use Rattle.dvi_frame.specs.Postamble.{marked_font, head_bytes, postamble_of}

module _ (low high : ℕ) where
  pub define_more : (f : ℕ) → definition_bytes (marked_fonts (f + 1) low high) ≡ definition_bytes (marked_fonts f low high) ++ definition_bytes (marked_font low high f)
  unfolding marked_fonts marked_font
  define_more f = rw (add-one, definitions_append (marked_fonts f low high) (marked_font low high f))

  define_part : (f d : ℕ) → length (definition_bytes (marked_fonts f low high)) ≤ length (definition_bytes (marked_fonts (f + d) low high))
  define_part f zero = rw add-zero (omega arith)
  define_part f (suc d) =
      let e : f + suc d ≡ f + d + 1 = omega arith in
      rw (e, define_more (f + d), length-append (definition_bytes (marked_fonts (f + d) low high)) (definition_bytes (marked_font low high (f + d))))
      (omega (arith, define_part f d))

  -- there is room for one more
  pub define_room : (f : ℕ) → f < 120 → length (definition_bytes (marked_fonts f low high)) + length (definition_bytes (marked_font low high f)) ≤ length (definition_bytes (marked_fonts 120 low high))
  define_room f h =
      let k : f + 1 + (119 - f) ≡ 120 = omega arith in
      let m : length (definition_bytes (marked_fonts (f + 1) low high)) ≤ length (definition_bytes (marked_fonts 120 low high)) = rw k at (define_part (f + 1) (119 - f)) in
      omega (arith, m, ap length (define_more f), length-append (definition_bytes (marked_fonts f low high)) (definition_bytes (marked_font low high f)))

pub length_head : (last : ℕ) (y x : ℤ) → length (head_bytes last y x) ≡ 13
unfolding head_bytes signed_bytes bytes
length_head last y x = refl

pub length_post : (last pst : ℕ) (e : Extents) → length (postamble_of last pst e) ≡ 26 + length (definition_bytes (marked_fonts 120 e.fonts.low e.fonts.high))
unfolding postamble_of head_bytes trailer_bytes signed_bytes bytes
length_post last pst e =
    rw (length-append (definition_bytes (marked_fonts 120 e.fonts.low e.fonts.high)) (trailer_bytes pst)) (omega arith)
