-- `dvi_back::tally::show_taken` meets its contract.
-- Assumes nothing.
use mathlib.Core.Path.{sym, ap, ◌∙◌}
use native.Mathlib.Omega.{arith}
use lib.ListN.{length}
use Rattle.octets.specs.Write.{put_if}
use Rattle.galley_file.specs.declared.form.Form.TheVariants.{New}
use Rattle.galley_file.specs.ItemLaws.{length_item_field}
use Rattle.dvi_back.specs.Tally.{field_of}
use Rattle.std.specs.Prelude.{Option}
use Rattle.galley_file.specs.declared.item.Item.{Item}
use Rattle.dvi_back.proofs.tally.show_taken.Goals as goal

pub put_item-requires : goal.put_item-requires
put_item-requires c =
    omega (arith, c.requires c.if-writing.true, ap (λ (k : Option Item). length (field_of k)) c.in-Some.is, length_item_field New c.in-Some.j)

pub returns-in-Some : goal.returns-in-Some
returns-in-Some c =
    let a = c.args in
    let w = c.if-writing.true in
    let e = c.in-Some.is in
    c.put_item.ensures.buffer_is ∙ sym (λ k. put_if (w k) a.out.now a.to (field_of (e k)))
