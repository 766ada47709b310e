-- The whole file, and the result of a call.
-- Assumes nothing.
use mathlib.Core.Path.{◌≡◌, sym, ap, subst, ◌∙◌}
use mathlib.Core.List.{List}
use Prim.Native.Nat.{ℕ, ◌+◌, ◌*◌, ◌≤◌, ◌<◌}
use native.Mathlib.Nat.{zero-add}
use native.Mathlib.Omega.{arith}
use lib.Count.{ones}
use lib.ListN.{length, length-append}
use lib.Seq.{sets}
use Rattle.octets.specs.Answer.{accepted, refused, refusal, written, if_room, Gives, no_dvi_room}
use Rattle.octets.specs.AnswerLaws.{room_short, room_enough, gives}
use Rattle.octets.specs.Write.{Wrote, then, named, sets_start}
use Rattle.galley_file.specs.declared.form.Form.TheVariants.{New}
use Rattle.galley_file.specs.declared.item.Item.{Item}
use Rattle.galley_file.specs.Item.{characters_of}
use Rattle.galley_file.specs.Galley.{AllValid, items_of}
use Rattle.galley_check.specs.Low.{low_outcome}
use Rattle.galley_check.specs.LowLaws.{low_made, low_refused}
use Rattle.dvi.specs.Writer.{first_writing, writing_after_all, pages_bytes, postamble_bytes, dvi_file}
use Rattle.dvi.proofs.WriterLaws.{length_file}
use Rattle.measure.specs.Place.{low_end}
use Rattle.extents.specs.declared.Extents.{Extents}
use Rattle.extents.specs.Extents.{ExtentsAre, extents_of}
use Rattle.extents.proofs.ExtentsLaws.{extents_are}
use Rattle.extents.specs.FontMarks.{FontsAre}
use Rattle.extents.proofs.FontMarksLaws.{fonts_count}
use Rattle.dvi_writer.specs.declared.plan.Plan.{Plan}
use Rattle.dvi_writer.specs.Result.{dvi_result}
use Rattle.dvi_writer.specs.Plan.{PlanIs}
use Rattle.dvi_frame.specs.Postamble.{postamble_of, HeldExtents}
use Rattle.dvi_frame.specs.PostambleLaws.{post_is, extents_held}

-- ---- the file

are : (e : Extents) (is : List Item) → AllValid low_end is → e ≡ extents_of (characters_of is) → ExtentsAre e (characters_of is)
are e is v q = subst (λ (x : Extents). ExtentsAre x (characters_of is)) (sym q) (extents_are is v)

-- the number of definitions is the ones of both marks
pub file_length : (p : Plan) (is : List Item) → PlanIs p is → AllValid low_end is → length (dvi_file is) ≡ 36 + p.length + 14 * (ones p.extents.fonts.low + ones p.extents.fonts.high)
file_length p is a v =
    let e = p.extents in
    let f : FontsAre e.fonts.low e.fonts.high (characters_of is) = (are e is v a.extents_are).fonts_are in
    omega (arith, length_file is, a.length_is, fonts_count e.fonts.low e.fonts.high (characters_of is) f)

module _ (e : Extents) (is : List Item) (v : AllValid low_end is) (a : e ≡ extents_of (characters_of is)) where
  pub holds : HeldExtents e
  holds = extents_held e is v (are e is v a)

  module _ (o₀ o₁ : List ℕ) (pst last : ℕ) (pages : Wrote o₀ 0 (pages_bytes is) o₁ pst) (l : last ≡ (writing_after_all first_writing is).bop) where
    pub pst_is : pst ≡ length (pages_bytes is)
    pst_is = pages.next_is ∙ zero-add (length (pages_bytes is))

    post_bytes_lem : postamble_of last pst e ≡ postamble_bytes (writing_after_all first_writing is).bop (length (pages_bytes is)) (characters_of is)
    post_bytes_lem = post_is last pst e (characters_of is) (are e is v a) ∙ (λ i. postamble_bytes (l i) (pst_is i) (characters_of is))

    pub post_room : pst + length (postamble_of last pst e) ≡ length (dvi_file is)
    unfolding dvi_file
    post_room =
        omega (arith, pst_is, ap length post_bytes_lem, length-append (pages_bytes is) (postamble_bytes (writing_after_all first_writing is).bop (length (pages_bytes is)) (characters_of is)))

    pub file_is : (o₂ : List ℕ) (r : ℕ) → Wrote o₁ pst (postamble_of last pst e) o₂ r → o₂ ≡ sets o₀ 0 (dvi_file is)
    unfolding dvi_file
    file_is o₂ r w = (then pages (named post_bytes_lem w)).buffer_is

-- ---- the call

-- what the check refuses is refused
pub check_refused : (g : List ℕ) (room n place : ℕ) → refused n place ≡ low_outcome g → dvi_result g room ≡ refusal n place
unfolding dvi_result if_room
check_refused g room n place e = ap (if_room no_dvi_room room) (sym (low_refused dvi_file g n place e))

module _ (g out : List ℕ) (count : ℕ) (a : accepted count ≡ low_outcome g) (need : ℕ) (e : need ≡ length (dvi_file (items_of New g))) where
  made : dvi_result g (length out) ≡ if_room no_dvi_room (length out) (written (dvi_file (items_of New g)))
  unfolding dvi_result
  made = ap (if_room no_dvi_room (length out)) (low_made dvi_file g count a)

  pub no_room : length out < need → dvi_result g (length out) ≡ refusal no_dvi_room need
  no_room h = made ∙ room_short no_dvi_room (length out) (dvi_file (items_of New g)) (omega arith) ∙ ap (refusal no_dvi_room) (sym e)

  enough : need ≤ length out → dvi_result g (length out) ≡ written (dvi_file (items_of New g))
  enough h = made ∙ room_enough no_dvi_room (length out) (dvi_file (items_of New g)) (omega arith)

  pub with_room : need ≤ length out → (o : List ℕ) → o ≡ sets out 0 (dvi_file (items_of New g))
      → Gives (accepted need) (dvi_result g) out o
  with_room h o q = gives (enough h) (ap accepted e) (q ∙ sets_start out (dvi_file (items_of New g)) (omega arith))
