-- The whole file, and the result of a call.
-- Assumes nothing.
use mathlib.Core.Path.{◌≡◌, sym, ap, ◌∙◌}
use mathlib.Core.List.{List}
use Prim.Native.Nat.{ℕ, ◌≤◌, ◌<◌}
use native.Mathlib.Nat.{zero-add}
use native.Mathlib.Omega.{arith}
use lib.ListN.{length}
use Rattle.octets.specs.Answer.{Gives, accepted, refused, refusal, written, if_room, no_dvi_room}
use Rattle.octets.specs.AnswerLaws.{room_short, room_enough, gives}
use Rattle.octets.specs.Write.{sets_start}
use Rattle.measure.specs.Place.{height_end}
use Rattle.galley_file.specs.declared.form.Form.TheVariants.{New}
use Rattle.galley_file.specs.declared.item.Item.{Item}
use Rattle.galley_file.specs.Item.{characters_of}
use Rattle.galley_file.specs.Galley.{max_items, AllValid, items_of}
use Rattle.galley_file.specs.Outcome.{check_outcome}
use Rattle.galley_check.specs.ResultLaws.{result_refused, result_made}
use Rattle.dvi.proofs.WriterLaws.{used_fonts_most}
use Rattle.dvi2.specs.Writer.{first_writing, writing_after_all, pages_bytes, postamble_bytes, command_bytes, fillers, bytes223, dvi2_file}
use Rattle.dvi2.specs.WriterLaws.{length_pages, items_bytes_most, length_postamble}
use Rattle.dvi2_writer.specs.declared.writing.Writing.{Writing}
use Rattle.octets.specs.PutIfRoom.{PutIfRoom}
use Rattle.dvi2_writer.specs.Writing.{Tallied}
use Rattle.dvi2_writer.specs.Postamble.{Sized, postamble_of}
use Rattle.dvi2.specs.Result.{dvi2_result}
use Rattle.octets.specs.PutIfRoomLaws.{put_if_room_then, put_if_room_named}
use Rattle.dvi2_frame.specs.FrameLaws.{ranged}
use Rattle.dvi2_writer.proofs.Postambles.{post_is}

-- ---- the file

module _ (is : List Item) (few : length is ≤ max_items) (p : Writing) (o₀ o₁ : List ℕ) (pages : PutIfRoom o₀ 0 (pages_bytes is) o₁ p.at) (v : AllValid height_end is) (x : Tallied p is) where
  at_is : p.at ≡ length (pages_bytes is)
  at_is = pages.next_is ∙ zero-add (length (pages_bytes is))

  pub sized : Sized p
  sized = record { ranged = ranged p.extents is x.extents_are v; at_small = omega (arith, at_is, length_pages is, items_bytes_most first_writing is) }

  module _ (o₂ : List ℕ) (to : ℕ) (post : PutIfRoom o₁ p.at (postamble_of p) o₂ to) where
    postamble : List ℕ
    postamble = postamble_bytes (writing_after_all first_writing is).bop (writing_after_all first_writing is).page (length (pages_bytes is)) (characters_of is)

    commands : PutIfRoom o₀ 0 (command_bytes is) o₂ to
    unfolding command_bytes
    commands = put_if_room_then pages (put_if_room_named (post_is p is x at_is) post)

    pub to_small : to < 2147483648
    to_small =
        let l = length_postamble (writing_after_all first_writing is).bop (writing_after_all first_writing is).page (length (pages_bytes is)) (characters_of is) in
        omega (arith, post.next_is, ap length (post_is p is x at_is), l, used_fonts_most 120 (characters_of is), sized.at_small)

    pub file_is : (o₃ : List ℕ) (r : ℕ) → PutIfRoom o₂ to (bytes223 (fillers to)) o₃ r → PutIfRoom o₀ 0 (dvi2_file is) o₃ r
    unfolding dvi2_file
    file_is o₃ r w =
        put_if_room_then commands (put_if_room_named (ap (λ (n : ℕ). bytes223 (fillers n)) (commands.next_is ∙ zero-add (length (command_bytes is)))) w)

-- ---- the call

-- what the check refuses is refused
pub check_refused : (g : List ℕ) (room n place : ℕ) → refused n place ≡ check_outcome New g → dvi2_result g room ≡ refusal n place
unfolding dvi2_result if_room
check_refused g room n place e = ap (if_room no_dvi_room room) (result_refused New (λ is. written (dvi2_file is)) g n place e)

module _ (g out : List ℕ) (count : ℕ) (a : accepted count ≡ check_outcome New g) (need : ℕ) (e : need ≡ length (dvi2_file (items_of New g))) where
  made : dvi2_result g (length out) ≡ if_room no_dvi_room (length out) (written (dvi2_file (items_of New g)))
  unfolding dvi2_result
  made = ap (if_room no_dvi_room (length out)) (result_made New (λ is. written (dvi2_file is)) g count a)

  pub no_room : length out < need → dvi2_result g (length out) ≡ refusal no_dvi_room need
  no_room h = made ∙ room_short no_dvi_room (length out) (dvi2_file (items_of New g)) (omega arith) ∙ ap (refusal no_dvi_room) (sym e)

  enough : need ≤ length out → dvi2_result g (length out) ≡ written (dvi2_file (items_of New g))
  enough h = made ∙ room_enough no_dvi_room (length out) (dvi2_file (items_of New g)) (omega arith)

  pub with_room : need ≤ length out → (o : List ℕ) (r : ℕ) → PutIfRoom out 0 (dvi2_file (items_of New g)) o r
      → Gives (accepted need) (dvi2_result g) out o
  with_room h o r w = gives (enough h) (ap accepted e) (w.buffer_is (omega arith) ∙ sets_start out (dvi2_file (items_of New g)) (omega arith))
