-- The definitions of marked fonts, one font more at a time; the first of some bytes 223; and the postamble of a writing.
-- Assumes nothing.
use mathlib.Core.Path.{◌≡◌, refl, ap, ◌∙◌}
use mathlib.Core.Bool.{cond}
use mathlib.Core.List.{List, [], ◌∷◌, ◌++◌}
use Prim.Native.Nat.{ℕ, zero, suc, ◌+◌, ◌*◌, ◌-◌, ◌%◌, ◌≤◌, ◌<◌}
use native.Mathlib.Nat.{suc-add}
use native.Mathlib.Numerals.{add-one}
use native.Mathlib.Omega.{arith}
use lib.ListN.{length, take, length-append}
use Rattle.octets.specs.OctetsLaws.{by_cond}
use Rattle.galley_file.specs.declared.item.Item.{Item}
use Rattle.galley_file.specs.Item.{characters_of}
use Rattle.extents.specs.FontMarks.{used_fonts, is_marked, marked_fonts}
use Rattle.extents.proofs.FontMarksLaws.{fonts_marked}
use Rattle.octets.specs.PutIfRoom.{PutIfRoom}
use Rattle.octets.specs.PutIfRoomLaws.{put_if_room_none, put_if_room_then, put_if_room_named}
use Rattle.dvi2.specs.Writer.{first_writing, writing_after_all, pages_bytes, definition_bytes, postamble_bytes, fillers, bytes223}
use Rattle.dvi2.specs.WriterLaws.{length_definitions, definitions_append, length_223}
use Rattle.dvi2_writer.specs.declared.writing.Writing.{Writing}
use Rattle.dvi2_writer.specs.Writing.{Tallied}
use Rattle.dvi2_writer.specs.Postamble.{postamble_of}
use Rattle.dvi2_frame.specs.Frame.{post_of, post_post_of}
use Rattle.dvi2_frame.specs.FrameLaws.{post_is as frame-post}

-- ---- the definitions

module _ (low high : ℕ) where
  pub define_more : (f : ℕ) → definition_bytes (marked_fonts (f + 1) low high) ≡ definition_bytes (marked_fonts f low high) ++ definition_bytes (cond (is_marked low high f) (f ∷ []) [])
  unfolding marked_fonts
  define_more f = rw (add-one, definitions_append (marked_fonts f low high) (cond (is_marked low high f) (f ∷ []) []))

  marked_most : (n : ℕ) → length (marked_fonts n low high) ≤ n
  unfolding marked_fonts
  marked_most zero = omega arith
  marked_most (suc n) =
      rw length-append
      (by_cond (λ (fs : List ℕ). length (marked_fonts n low high) + length fs ≤ suc n) (is_marked low high n) _ _
      (λ _. omega (arith, marked_most n))
      (λ _. omega (arith, marked_most n)))

  pub define_most : (f : ℕ) → length (definition_bytes (marked_fonts f low high)) ≤ 20 * f
  define_most f = omega (arith, length_definitions (marked_fonts f low high), marked_most f)

-- ---- the bytes 223

more_223 : (n : ℕ) → bytes223 n ++ (223 ∷ []) ≡ bytes223 (suc n)
unfolding bytes223
more_223 zero = refl
more_223 (suc n) = ap (λ (l : List ℕ). 223 ∷ l) (more_223 n)

-- some of them are written
pub record Filled (first : List ℕ) (at end : ℕ) (out : List ℕ) (to : ℕ) : Type 0 where
  pub many : ℕ
  pub puts : PutIfRoom first at (bytes223 many) out to
  pub within : to ≤ end

pub filled_start : (first : List ℕ) (at end : ℕ) → at ≤ end → Filled first at end first at
unfolding bytes223
filled_start first at end h = record { many = 0; puts = put_if_room_none first at; within = h }

pub filled_more : (first : List ℕ) (at end : ℕ) (out : List ℕ) (to : ℕ) → Filled first at end out to → to < end → (o : List ℕ) (r : ℕ) → PutIfRoom out to (223 ∷ []) o r → Filled first at end o r
filled_more first at end out to f h o r p =
    record { many = suc f.many; puts = put_if_room_named (more_223 f.many) (put_if_room_then f.puts p); within = omega (arith, p.next_is) }

pub filled_end : (first : List ℕ) (at : ℕ) (out : List ℕ) (to : ℕ) → Filled first at (at + 4 + (4 - at % 4) % 4) out to → at + 4 + (4 - at % 4) % 4 ≤ to → PutIfRoom first at (bytes223 (fillers at)) out to
unfolding fillers
filled_end first at out to f h =
    let e : f.many ≡ 4 + (4 - at % 4) % 4 = omega (arith, f.within, f.puts.next_is, length_223 f.many) in
    put_if_room_named (ap bytes223 e) f.puts

-- ---- the postamble

-- that of the writing after the items is that of their characters
pub post_is : (p : Writing) (is : List Item) → Tallied p is → p.at ≡ length (pages_bytes is)
    → postamble_of p ≡ postamble_bytes (writing_after_all first_writing is).bop (writing_after_all first_writing is).page (length (pages_bytes is)) (characters_of is)
unfolding postamble_of post_post_of postamble_bytes
post_is p is x e =
    let fonts = fonts_marked p.extents.fonts.low p.extents.fonts.high (characters_of is) x.extents_are.fonts_are 120 (omega arith) in
    (λ i. post_of (x.bop_is i) p.extents (x.page_is i) ++ (definition_bytes (fonts i) ++ post_post_of (e i)))
    ∙ ap (λ (l : List ℕ). l ++ (definition_bytes (used_fonts 120 (characters_of is)) ++ post_post_of (length (pages_bytes is)))) (frame-post p.extents is x.extents_are _ _)
