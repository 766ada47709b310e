-- `dvi2_writer::writing::Writing::put_cut` meets its contract: eop, and the next page's bop after it.
-- Assumes nothing.
use mathlib.Core.Path.{◌≡◌, refl, ap, ◌∙◌}
use Prim.Native.Nat.{ℕ, suc, ◌+◌}
use native.Mathlib.Numerals.{add-one}
use native.Mathlib.Omega.{arith}
use lib.IntN.{pos}
use mir.Syntax.{w32}
use mir.Val.{SFits, to_z}
use Rattle.integers.specs.Parts.{integers}
use Rattle.integers.specs.Bits.{plain_pos}
use Rattle.dvi2.specs.Writer.{bop_bytes, first_writing, item_bytes, writing_after_all}
use Rattle.dvi2.specs.WriterLaws.{length_cut}
use Rattle.octets.specs.PutIfRoomLaws.{put_if_room_then, put_if_room_named}
use Rattle.dvi2_writer.proofs.Writings.{writing_cut}
use Rattle.dvi2_writer.proofs.writing.Writing.put_cut.Goals as goal

pub put_bytes-bop-requires : goal.put_bytes-bop-requires
put_bytes-bop-requires c = omega (arith, c.requires.at_small)

pub overflow_add-page : goal.overflow_add-page
overflow_add-page c = omega (arith, c.requires.page_small)

pub overflow_cast-self : goal.overflow_cast-self
overflow_cast-self c = omega (arith, c.requires.bop_small)

pub put_bop-at-requires : goal.put_bop-at-requires
put_bop-at-requires c = omega (arith, c.requires.at_small, c.put_bytes-bop.ensures.next_is)

pub overflow_cast-result : goal.overflow_cast-result
overflow_cast-result c = omega (arith, c.requires.at_small, c.put_bytes-bop.ensures.next_is)

pub returns : goal.returns
unfolding item_bytes
returns c is h =
    let a = c.args.self in
    let e = c.put_bytes-bop.ensures in
    let q = h.tallied in
    let f : SFits w32 (pos a.bop) = omega (integers, c.requires.bop_small) in
    let n : a.page + 1 ≡ suc (writing_after_all first_writing is).page = add-one a.page ∙ ap suc q.page_is in
    let b : to_z w32 a.bop ≡ pos (writing_after_all first_writing is).bop = plain_pos f ∙ ap pos q.bop_is in
    let w = put_if_room_then e (put_if_room_named (λ i. bop_bytes (n i) (b i)) c.put_bop-at.ensures) in
    (w, writing_cut a is h _ c.start.ensures refl (add-one a.page) e.next_is (w.next_is ∙ ap (λ (k : ℕ). a.at + k) (length_cut (writing_after_all first_writing is))))
