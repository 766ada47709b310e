-- `dvi_back::tally::next_item` meets its contract, case by case (`Items`).
-- Assumes nothing.
use mathlib.Core.Path.{sym, ap, ◌∙◌}
use native.Mathlib.Omega.{arith}
use Rattle.dvi_galley.specs.Back.{with_one_item}
use Rattle.dvi_galley.specs.Taken.{taken_of}
use Rattle.dvi_back.specs.Tally.{tally_of}
use Rattle.dvi_back.proofs.Items.{full_item, no_item, character_item, cut_item}
use Rattle.std.specs.Prelude.{Option, Some}
use Rattle.galley_file.specs.declared.item.Item.{Item}
use Rattle.dvi_back.proofs.tally.next_item.Goals as goal

pub returns-then-cuts-characters-ge-MAX_ITEMS : goal.returns-then-cuts-characters-ge-MAX_ITEMS
returns-then-cuts-characters-ge-MAX_ITEMS c b e =
    let a = c.args in
    full_item a.cuts a.characters a.at b (taken_of a.i) e c.if-cuts-characters-ge-MAX_ITEMS.true

pub returns-in-Some-Placed : goal.returns-in-Some-Placed
returns-in-Some-Placed c b e =
    let a = c.args in
    let f = c.in-Some-Placed in
    character_item a.cuts a.characters a.at b f.field-0-0 e (omega (arith, c.if-cuts-characters-ge-MAX_ITEMS.false))
    ∙ ap (λ (k : Option Item). tally_of (with_one_item b a.at (taken_of k))) (sym (f.is ∙ ap Some (rw f.is at f.field-0-is)))

pub returns-in-Some-Cut : goal.returns-in-Some-Cut
returns-in-Some-Cut c b e =
    let a = c.args in
    let f = c.in-Some-Cut in
    cut_item a.cuts a.characters a.at b e (omega (arith, c.if-cuts-characters-ge-MAX_ITEMS.false))
    ∙ ap (λ (k : Option Item). tally_of (with_one_item b a.at (taken_of k))) (sym (f.is ∙ ap Some (rw f.is at f.field-0-is)))

pub returns-in-None : goal.returns-in-None
returns-in-None c b e =
    let a = c.args in
    no_item a.cuts a.characters a.at b e ∙ ap (λ (k : Option Item). tally_of (with_one_item b a.at (taken_of k))) (sym c.in-None.is)
