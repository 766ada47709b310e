-- Going through a galley from field to field.
--     met             the items that stand one after another from a place on, each where the one before ended, at most so many
--     one_by_one      those of an accepted galley are its items
--     none_at_end     and at End there is none
-- Assumes nothing.
use Rattle.std.specs.Prelude.{◌≡◌, length, drop}
use Rattle.std.proofs.Math.Path.{refl, ap}
use Rattle.std.proofs.Common.{sym, ◌∙◌, arith, length-drop}
use mathlib.Core.List.{List, [], ◌∷◌, ◌++◌}
use Rattle.std.proofs.Math.Option.{some}
use Prim.Native.Nat.{ℕ, zero, suc, ◌+◌, ◌-◌, ◌≤◌}
use Rattle.octets.specs.Answer.{accepted, galley_malformed}
use Rattle.octets.specs.Field.{starts_end}
use Rattle.octets.specs.FieldLaws.{both, starts}
use Rattle.galley_file.specs.declared.form.Form.TheVariants.{New}
use Rattle.galley_file.specs.declared.item.Item.{Item}
use Rattle.galley_file.specs.Item.{item_size, next_item}
use Rattle.galley_file.specs.ItemLaws.{next_none}
use Rattle.galley_file.specs.Galley.{items_of}
use Rattle.galley_file.specs.GalleyLaws.{read_as}
use Rattle.galley_file.specs.ReadingLaws.{first, last}
use Rattle.galley_file.specs.Outcome.{check_outcome}
use Rattle.galley_file.specs.Walk.{Walk, walk_start, walk_step}
use Rattle.galley_items.specs.Here.{is_item, no_item, or_malformed, here_outcome}

unfoldable pub met : ℕ → List ℕ → ℕ → List Item
met zero g at = []
met (suc k) g at =
    elim (here_outcome g at) [
      | is_item i ↦ i ∷ met k g (at + item_size New i)
      | no_item number place ↦ []
    ]

module _ (g : List ℕ) where
  here_next : (at : ℕ) (i : Item) → next_item New (drop at g) ≡ some i → here_outcome g at ≡ is_item i
  unfolding here_outcome
  here_next at i e = ap (or_malformed at) e

  -- past all items there is End
  here_end : (done : List Item) (at : ℕ) → Walk New g done [] at → here_outcome g at ≡ no_item galley_malformed at
  unfolding here_outcome starts_end
  here_end done at w =
      let s = (last New w.left (drop at g) at w.before w.holds).starts in
      let t = (starts (both _ _ s).0).tag_is in
      ap (or_malformed at) (next_none New (drop at g) (λ e. omega (arith, t, e)) (λ e. omega (arith, t, e)))

  met_rest : (rest done : List Item) (at k : ℕ) → length rest ≤ k → Walk New g done rest at → met k g at ≡ rest
  unfolding met
  met_rest [] done at zero h w = refl
  met_rest [] done at (suc k) h w = rw (here_end done at w, met)
  met_rest (i ∷ rest) done at zero h w = absurd (omega arith)
  met_rest (i ∷ rest) done at (suc k) h w =
      let n = (first New w.left (drop at g) at w.before i rest w.holds).next in
      rw (here_next at i n, met) (ap (λ (is : List Item). i ∷ is) (met_rest rest (done ++ (i ∷ [])) (at + item_size New i) k (omega arith) (walk_step New g done i rest at w).walk))

  -- as many as may be asked for
  pub one_by_one : (count k : ℕ) → accepted count ≡ check_outcome New g → length (items_of New g) ≤ k → met k g 0 ≡ items_of New g
  one_by_one count k e h = met_rest (items_of New g) [] 0 k h (walk_start New g (items_of New g) (read_as New g count e))

  walk_through : (rest done : List Item) (at : ℕ) → Walk New g done rest at → here_outcome g (length g - 7) ≡ no_item galley_malformed (length g - 7)
  walk_through [] done at w =
      let l = (last New w.left (drop at g) at w.before w.holds).long in
      let z : at ≡ length g - 7 = omega (arith, l, length-drop at g, w.inside) in
      ap (λ (n : ℕ). here_outcome g n) (sym z) ∙ here_end done at w ∙ ap (no_item galley_malformed) z
  walk_through (i ∷ rest) done at w = walk_through rest (done ++ (i ∷ [])) (at + item_size New i) (walk_step New g done i rest at w).walk

  pub none_at_end : (count : ℕ) → accepted count ≡ check_outcome New g → here_outcome g (length g - 7) ≡ no_item galley_malformed (length g - 7)
  none_at_end count e = walk_through (items_of New g) [] 0 (walk_start New g (items_of New g) (read_as New g count e))
