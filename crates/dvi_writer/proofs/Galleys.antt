-- The items of a galley of low heights, one after another.
-- Assumes nothing.
use mathlib.Core.Path.{◌≡◌, subst}
use mathlib.Core.Bool.{true}
use mathlib.Core.List.{List, [], ◌∷◌, ◌++◌}
use Prim.Native.Nat.{◌≤◌}
use lib.ListN.{length}
use Rattle.measure.specs.Place.{low_end, height_end}
use Rattle.galley_file.specs.declared.form.Form.TheVariants.{New}
use Rattle.galley_file.specs.declared.item.Item.{Item}
use Rattle.galley_file.specs.Item.{valid_item}
use Rattle.galley_file.specs.Galley.{max_items, AllValid, items_of}
use Rattle.galley_file.specs.Galley as galley
use Rattle.galley_file.specs.GalleyLaws.{checked}
use Rattle.galley_file.specs.FieldsLaws.{valid_turn}
use Rattle.galley_check.specs.declared.galley.LowGalley.{LowGalley}
use Rattle.galley_check.specs.Accepted.{low_as}
use Rattle.galley_check.specs.LowLaws.{low_checked, raised}

module _ (g : LowGalley) where
  pub few : length (items_of New g.bytes.now) ≤ max_items
  unfolding items_of
  few = let k = checked New g.bytes.now g.count (low_checked _ _ (low_as _ _ g.low)).checked in rw k.read k.few

  pub all_low : AllValid low_end (items_of New g.bytes.now)
  all_low = (low_checked _ _ (low_as _ _ g.low)).valid

-- the next one
pub low_next : (is done : List Item) (i : Item) (rest : List Item) → AllValid low_end is → is ≡ done ++ (i ∷ rest) → valid_item low_end i ≡ true
low_next is done i rest v e = valid_turn low_end done rest i (subst (AllValid low_end) e v)

-- an item of a low height is valid
valid_first : {top : _} (i : Item) (is : List Item) → AllValid top (i ∷ is) → valid_item top i ≡ true
valid_first i is (galley.more v vs) = v

pub raised_one : (i : Item) → valid_item low_end i ≡ true → valid_item height_end i ≡ true
raised_one i v = valid_first i [] (raised (galley.more {i = i} v galley.nil))
