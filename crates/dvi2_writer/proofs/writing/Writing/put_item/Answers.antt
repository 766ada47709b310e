-- `dvi2_writer::writing::Writing::put_item` meets its contract, by the kinds of item.
-- Assumes nothing.
use mathlib.Core.Path.{◌≡◌, sym, ap, subst, ◌∙◌}
use mathlib.Core.List.{List, [], ◌∷◌, ◌++◌}
use Prim.Native.Nat.{ℕ}
use Rattle.measure.specs.Place.{height_end}
use Rattle.galley_file.specs.declared.item.Item.{Item}
use Rattle.galley_file.specs.Item.{valid_item}
use Rattle.dvi2.specs.Writer.{first_writing, item_bytes, writing_after_all}
use Rattle.dvi2_writer.specs.declared.writing.Writing.{Writing}
use Rattle.octets.specs.PutIfRoom.{PutIfRoom}
use Rattle.dvi2_writer.specs.Writing.{WritingIs}
use Rattle.dvi2_writer.proofs.writing.Writing.put_item.Goals as goal

-- the same of an item that is another
of-kind : (o : List ℕ) (p : Writing) (o' : List ℕ) (r : Writing) {i j : Item} → i ≡ j
    → ((is : List Item) → WritingIs p is → (PutIfRoom o p.at (item_bytes (writing_after_all first_writing is) i) o' r.at) × WritingIs r (is ++ (i ∷ [])))
    → (is : List Item) → WritingIs p is → (PutIfRoom o p.at (item_bytes (writing_after_all first_writing is) j) o' r.at) × WritingIs r (is ++ (j ∷ []))
of-kind o p o' r e w = subst (λ (k : Item). (is : List Item) → WritingIs p is → (PutIfRoom o p.at (item_bytes (writing_after_all first_writing is) k) o' r.at) × WritingIs r (is ++ (k ∷ []))) e w

pub put_character-requires : goal.put_character-requires
put_character-requires c =
    (c.requires.0, sym (ap (valid_item height_end) c.in-Placed.is) ∙ c.requires.1)

pub put_cut-requires : goal.put_cut-requires
put_cut-requires c = c.requires.0

pub returns-in-Placed : goal.returns-in-Placed
returns-in-Placed c = of-kind _ c.args.self _ _ (sym c.in-Placed.is) c.put_character.ensures

pub returns-in-Cut : goal.returns-in-Cut
returns-in-Cut c = of-kind _ c.args.self _ _ (sym c.in-Cut.is) c.put_cut.ensures
