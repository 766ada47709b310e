-- `dvi_writer::page::put_pages` meets its contract: one write after the other.
-- Assumes nothing.
use mathlib.Core.Path.{◌≡◌, refl, ap, subst, ◌∙◌}
use mathlib.Core.List.{List}
use Prim.Native.Nat.{ℕ, ◌+◌}
use native.Mathlib.Omega.{arith}
use lib.IntN.{ℤ, negsuc}
use lib.ListN.{length}
use Rattle.octets.specs.Octets.{bytes, signed_bytes}
use Rattle.octets.specs.Write.{Wrote, then, length_wrote}
use Rattle.dvi.specs.Writer.{bop_bytes, Writing, pages_bytes}
use Rattle.dvi.proofs.WriterLaws.{length_pages}
use Rattle.galley_file.specs.declared.form.Form.TheVariants.{New}
use Rattle.galley_file.specs.Galley.{items_of}
use Rattle.dvi_writer.specs.Writing.{writing_of}
use Rattle.dvi_writer.proofs.page.put_pages.Goals as goal

length_bop : (n : ℕ) (z : ℤ) → 0 + length (bop_bytes n z) ≡ 9
unfolding bop_bytes signed_bytes bytes
length_bop n z = refl

-- the same place by another name
ends_at : {o o' bs : List ℕ} {i j k : ℕ} → Wrote o i bs o' j → j ≡ k → Wrote o i bs o' k
ends_at {o} {o'} {bs} {i} w e = subst (λ (n : ℕ). Wrote o i bs o' n) e w

pub put_bop-requires : goal.put_bop-requires
put_bop-requires c = omega (arith, c.requires, length_pages (items_of New c.args.galley.bytes.now))

pub put_items-p-requires : goal.put_items-p-requires
put_items-p-requires c =
    let w = c.put_bop.ensures in
    (omega (arith, c.requires, length_pages (items_of New c.args.galley.bytes.now), length_wrote w))

pub put_byte-requires : goal.put_byte-requires
put_byte-requires c =
    let w = c.put_bop.ensures in
    let v = c.put_items-p.ensures.0 in
    omega (arith, c.requires, length_pages (items_of New c.args.galley.bytes.now), v.next_is, length_wrote w, length_wrote v)

pub returns : goal.returns
unfolding pages_bytes writing_of
returns c =
    let w = c.put_bop.ensures in
    let v = c.put_items-p.ensures in
    let b = ends_at w (w.next_is ∙ length_bop 1 (negsuc 0)) in
    (then b (then v.0 c.put_byte.ensures), ap (λ (p : Writing). p.bop) v.1.writing_is)
