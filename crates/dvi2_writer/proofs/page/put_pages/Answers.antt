-- `dvi2_writer::page::put_pages` meets its contract: one run after the other.
-- Assumes nothing.
use mathlib.Core.Path.{◌≡◌, refl, subst}
use mathlib.Core.List.{List}
use Prim.Native.Nat.{ℕ}
use native.Mathlib.Omega.{arith}
use lib.IntN.{negsuc}
use lib.ListN.{length}
use Rattle.octets.specs.Octets.{bytes}
use Rattle.galley_file.specs.declared.form.Form.TheVariants.{New}
use Rattle.galley_file.specs.Galley.{items_of}
use Rattle.dvi2.specs.Writer.{unit_bytes, preamble_bytes, first_writing, pages_bytes}
use Rattle.dvi2.specs.WriterLaws.{length_bop, items_bytes_most}
use Rattle.octets.specs.PutIfRoom.{PutIfRoom}
use Rattle.octets.specs.PutIfRoomLaws.{put_if_room_then}
use Rattle.dvi2_writer.proofs.Passes.{few}
use Rattle.dvi2_writer.proofs.page.put_pages.Goals as goal

length_preamble : length preamble_bytes ≡ 15
unfolding preamble_bytes unit_bytes bytes
length_preamble = refl

-- the same place by another name
ends_at : {o o' bs : List ℕ} {i j k : ℕ} → PutIfRoom o i bs o' j → j ≡ k → PutIfRoom o i bs o' k
ends_at {o} {o'} {bs} {i} w e = subst (λ (n : ℕ). PutIfRoom o i bs o' n) e w

pub put_bop-requires : goal.put_bop-requires
put_bop-requires c = omega (arith, c.put_preamble-bop.ensures.next_is, length_preamble)

pub put_bytes-requires : goal.put_bytes-requires
put_bytes-requires c =
    omega (arith, c.put_items-p.ensures.0.next_is, items_bytes_most first_writing (items_of New c.args.galley.bytes.now), few c.args.galley)

pub returns : goal.returns
unfolding pages_bytes
returns c =
    let e = c.put_preamble-bop.ensures in
    let b = c.put_bop.ensures in
    let v = c.put_items-p.ensures in
    let x = v.1.tallied in (
      put_if_room_then e
          (put_if_room_then (ends_at b (omega (arith, e.next_is, b.next_is, length_preamble, length_bop 1 (negsuc 0)))) (put_if_room_then v.0 c.put_bytes.ensures)),
      record { extents_are = x.extents_are; page_is = x.page_is; bop_is = x.bop_is },
    )
