-- `dvi_galley::item::item_of` meets its contract: an item for each kind of mark.
-- Assumes nothing.
use mathlib.Core.Path.{sym, ap, ◌∙◌}
use mathlib.Core.Bool.{cond}
use mathlib.Core.Option.{none, some}
use borrow.Author.Rules.{rules}
use mir.Syntax.{w32}
use Rattle.integers.specs.Bits.{plain}
use Rattle.integers.specs.Equality.{eq_z}
use Rattle.galley_file.specs.declared.item.Item.TheVariants.{Cut}
use Rattle.dvi.specs.Mark.{mark_of}
use Rattle.dvi.specs.declared.mark.Mark.{Mark}
use Rattle.dvi_galley.specs.Target.{x_of_target, height_of_target}
use Rattle.dvi_galley.specs.Back.{placed_item, character_shown, item_shown}
use Rattle.dvi_galley.proofs.item.item_of.Goals as goal

pub returns-in-Start : goal.returns-in-Start
unfolding item_shown
returns-in-Start c n e =
    let z = plain {w = w32} {z = c.in-Start.n} (search rules) in
    let y = plain c.ranges.next in
    c.page_of.ensures
    ∙ (λ k. cond (eq_z (z k) ((y ∙ e) k)) (some Cut) none)
    ∙ ap (λ (k : Mark). item_shown n (mark_of k)) (sym c.in-Start.is)

pub returns-in-Char : goal.returns-in-Char
unfolding item_shown
returns-in-Char c n e =
    let f = plain {w = w32} {z = c.in-Char.font} (search rules) in
    c.character_of.ensures
    ∙ (λ k. placed_item (character_shown (x_of_target c.in-Char.x.0) (height_of_target c.in-Char.y.0) (f k) c.in-Char.ch))
    ∙ ap (λ (k : Mark). item_shown n (mark_of k)) (sym c.in-Char.is)

pub returns-in-Rule : goal.returns-in-Rule
unfolding item_shown
returns-in-Rule c n e = ap (λ (k : Mark). item_shown n (mark_of k)) (sym c.in-Rule.is)
