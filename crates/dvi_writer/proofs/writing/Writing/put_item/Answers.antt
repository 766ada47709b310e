-- `dvi_writer::writing::Writing::put_item` meets its contract, by the kinds of item.
-- Assumes nothing.
use mathlib.Core.Path.{sym, ap, ◌∙◌}
use native.Mathlib.Omega.{arith}
use lib.ListN.{length}
use Rattle.measure.specs.Place.{low_end}
use Rattle.galley_file.specs.declared.item.Item.{Item}
use Rattle.galley_file.specs.Item.{valid_item}
use Rattle.dvi.specs.Writer.{item_bytes}
use Rattle.dvi_writer.specs.Writing.{writing_of}
use Rattle.dvi_characters.specs.PositionLaws.{position_kind}
use Rattle.dvi_writer.proofs.Passes.{length_cut, wrote_kind}
use Rattle.dvi_writer.proofs.writing.Writing.put_item.Goals as goal

pub put_character-requires : goal.put_character-requires
unfolding writing_of item_bytes
put_character-requires c =
    let e = c.in-Placed.is in
    let n = position_kind _ e c.after-next.ensures in
    let l = ap (λ (i : Item). length (item_bytes (writing_of c.args.self) i)) e in
    (omega (arith, l, c.requires.i_in_bounds.0.0), (c.requires.i_in_bounds.1.1.0, record { is_valid = sym (ap (valid_item low_end) e) ∙ c.requires.i_in_bounds.1.1.1; position_is = n.position_is }))

pub put_cut-requires : goal.put_cut-requires
put_cut-requires c =
    let e = c.in-Cut.is in
    let n = position_kind _ e c.after-next.ensures in
    let l = ap (λ (i : Item). length (item_bytes (writing_of c.args.self) i)) e ∙ length_cut (writing_of c.args.self) in
    ((omega (arith, l, c.requires.i_in_bounds.0.0), c.requires.i_in_bounds.0.1), (c.requires.i_in_bounds.1.0, n))

pub returns-in-Placed : goal.returns-in-Placed
returns-in-Placed c =
    let p = c.args.self in
    wrote_kind _ p _ _ (sym c.in-Placed.is) c.put_character.ensures

pub returns-in-Cut : goal.returns-in-Cut
returns-in-Cut c =
    let p = c.args.self in
    wrote_kind _ p _ _ (sym c.in-Cut.is) c.put_cut.ensures
