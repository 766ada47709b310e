-- `dvi_back::tally::first_item` meets its contract, case by case.
-- Assumes nothing.
use mathlib.Core.Path.{sym, ap, ◌∙◌}
use Rattle.galley_file.specs.Item.{cuts_of, characters_of}
use Rattle.dvi_galley.specs.Back.{nothing, with_one_item}
use Rattle.dvi_galley.specs.Taken.{taken_of}
use Rattle.dvi_back.specs.Tally.{tally_of}
use Rattle.std.specs.Prelude.{Option, Some}
use Rattle.galley_file.specs.declared.item.Item.{Item}
use Rattle.dvi_back.proofs.tally.first_item.Goals as goal

pub returns-in-Some-Cut : goal.returns-in-Some-Cut
unfolding with_one_item cuts_of characters_of
returns-in-Some-Cut c =
    let a = c.args in
    let e = c.in-Some-Cut in
    sym (ap (λ (k : Option Item). tally_of (with_one_item nothing a.at (taken_of k))) (e.is ∙ ap Some (rw e.is at e.field-0-is)))

pub returns-in-Some-Placed : goal.returns-in-Some-Placed
unfolding with_one_item
returns-in-Some-Placed c =
    let a = c.args in
    let e = c.in-Some-Placed in
    sym (ap (λ (k : Option Item). tally_of (with_one_item nothing a.at (taken_of k))) (e.is ∙ ap Some (rw e.is at e.field-0-is)))

pub returns-in-None : goal.returns-in-None
unfolding with_one_item
returns-in-None c =
    let a = c.args in
    sym (ap (λ (k : Option Item). tally_of (with_one_item nothing a.at (taken_of k))) c.in-None.is)
