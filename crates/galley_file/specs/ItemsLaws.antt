-- What a `for` over the items of a run knows: those gone by, this turn's, and those to come.
--     items_walked     the items are those gone by and those that are left
--     items_turn       and in a turn those gone by, this turn's and those after it
--     items_over       at the end they are those gone by
-- Assumes nothing.
use Rattle.std.specs.Prelude.{◌≡◌, List, [], ◌∷◌, ◌++◌, Option, Some, None}
use Rattle.std.specs.Iterator.{Yields, YieldsFirst}
use Rattle.std.proofs.Common.{ap, subst, ◌∙◌, append-nil}
use Rattle.galley_file.specs.declared.item.Item.{Item}
use Rattle.galley_file.specs.declared.items.Items.{Items}
use Rattle.galley_file.specs.Items.{items_left}

pub items_walked : (s t : Items) (done : List Item) → Yields (YieldsFirst items_left) s done t → items_left s ≡ done ++ items_left t
items_walked s t [] y = ap items_left y
items_walked s t (i ∷ is) y = y.1 ∙ ap (λ (js : List Item). i ∷ js) (items_walked y.0 t is y.2)

module _ (s t u : Items) (done : List Item) (r : Option Item) (y : Yields (YieldsFirst items_left) s done t) (steps : YieldsFirst items_left t r u) where
  pub items_turn : (i : Item) → r ≡ Some i → items_left s ≡ done ++ (i ∷ items_left u)
  items_turn i e =
      let n : YieldsFirst items_left t (Some i) u = subst (λ (o : Option Item). YieldsFirst items_left t o u) e steps in
      items_walked s t done y ∙ ap (λ (js : List Item). done ++ js) n

  pub items_over : r ≡ None → items_left s ≡ done
  items_over e =
      let n : YieldsFirst items_left t None u = subst (λ (o : Option Item). YieldsFirst items_left t o u) e steps in
      items_walked s t done y ∙ ap (λ (js : List Item). done ++ js) n.0 ∙ append-nil done
