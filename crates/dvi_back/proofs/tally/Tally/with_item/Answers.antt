-- `dvi_back::tally::Tally::with_item` meets its contract, case by case.
-- Assumes nothing.
use mathlib.Core.Path.{sym, ap, ◌∙◌}
use Rattle.dvi_galley.specs.Back.{Made, with_one_item}
use Rattle.dvi_galley.specs.Taken.{taken_of}
use Rattle.dvi_back.specs.Tally.{tally_of}
use Rattle.dvi_back.proofs.Items.{nothing_is, broken_is}
use Rattle.dvi_back.proofs.tally.Tally.with_item.Goals as goal

pub returns-in-Nothing : goal.returns-in-Nothing
returns-in-Nothing c b e =
    let a = c.args in
    c.first_item.ensures ∙ ap (λ (k : Made). tally_of (with_one_item k a.at (taken_of a.i))) (sym (nothing_is b (sym c.in-Nothing.is ∙ e)))

pub returns-in-Items : goal.returns-in-Items
returns-in-Items c b e = c.next_item.ensures b (sym c.in-Items.is ∙ e)

pub returns-in-Broken : goal.returns-in-Broken
returns-in-Broken c b e =
    let a = c.args in
    broken_is c.in-Broken.place b a.at (taken_of a.i) (sym c.in-Broken.is ∙ e)
