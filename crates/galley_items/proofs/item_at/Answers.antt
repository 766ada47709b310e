-- `galley_items::item_at` meets its contract: the part of the galley from the place on is tested for a character and for a cut.
-- Assumes nothing.
use mathlib.Core.Path.{sym, ap, ◌∙◌}
use native.Mathlib.Omega.{arith}
use Rattle.galley_file.specs.declared.character.Character.{Character}
use Rattle.galley_file.specs.declared.form.Form.TheVariants.{New}
use Rattle.galley_file.specs.declared.item.Item.TheVariants.{Placed}
use Rattle.galley_file.specs.CharacterLaws.{read_character, height_number}
use Rattle.galley_items.specs.Here.{is_item}
use Rattle.galley_items.proofs.Places.{past_end, here_character, here_cut, here_none}
use Rattle.galley_items.proofs.item_at.Goals as goal

pub returns-then-g-at : goal.returns-then-g-at
returns-then-g-at c = rw c.at.ensures (past_end _ _ c.if-g-at.true)

pub character_at-requires : goal.character_at-requires
character_at-requires c =
    let r = read_character New _ (sym c.is_character.ensures ∙ c.if-is_character.true) in
    (omega (arith, r.long), height_number New _ 0 r.is_valid)

pub returns-then-is_character : goal.returns-then-is_character
returns-then-is_character c =
    ap (λ (k : Character). is_item (Placed k)) c.character_at.ensures
    ∙ here_character _ _ (sym c.is_character.ensures ∙ c.if-is_character.true)

pub returns-then-is_cut : goal.returns-then-is_cut
returns-then-is_cut c = here_cut _ _ (sym c.is_character.ensures ∙ c.if-is_character.false) (sym c.is_cut.ensures ∙ c.if-is_cut.true)

pub returns : goal.returns
returns c = rw c.at-2.ensures (here_none _ _ (sym c.is_character.ensures ∙ c.if-is_character.false) (sym c.is_cut.ensures ∙ c.if-is_cut.false))
