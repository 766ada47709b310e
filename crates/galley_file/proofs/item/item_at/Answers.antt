-- `galley_file::item::item_at` meets its contract.
use mathlib.Core.Path.{ap}
use borrow.Author.Tests.{eq-eqb, ne_eqb}
use Rattle.galley_file.specs.declared.item.Item.TheVariants.{Placed}
use Rattle.galley_file.specs.Item.{item_at}
use Rattle.galley_file.specs.ItemLaws.{whole_character}
use Rattle.galley_file.proofs.item.item_at.Goals as goal

pub returns-then-s-at-eq-CUT_TAG : goal.returns-then-s-at-eq-CUT_TAG
unfolding item_at
returns-then-s-at-eq-CUT_TAG c = rw (eq-eqb _ _ c.if-s-at-eq-CUT_TAG.true)

pub character_at-requires : goal.character_at-requires
character_at-requires c = whole_character _ _ _ c.requires c.if-s-at-eq-CUT_TAG.false

pub returns-else-s-at-eq-CUT_TAG : goal.returns-else-s-at-eq-CUT_TAG
unfolding item_at
returns-else-s-at-eq-CUT_TAG c = rw (ne_eqb _ _ c.if-s-at-eq-CUT_TAG.false) (ap Placed c.character_at.ensures)
