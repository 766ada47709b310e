-- What stands at a place, by the tests of the part from there on.
-- Assumes nothing.
use mathlib.Core.Path.{◌≡◌, sym, ap, ◌∙◌}
use mathlib.Core.Bool.{true, false}
use mathlib.Core.List.{List, []}
use mathlib.Core.Option.{Option, none, some}
use Prim.Native.Nat.{ℕ, ◌-◌, ◌<◌}
use native.Mathlib.Omega.{arith}
use lib.ListN.{length, take, drop, length-drop, drop_of_length-le}
use lib.Seq.{take_all}
use Rattle.octets.specs.Answer.{galley_malformed}
use Rattle.galley_file.specs.declared.form.Form.TheVariants.{New}
use Rattle.galley_file.specs.declared.item.Item.{Item}
use Rattle.galley_file.specs.declared.item.Item.TheVariants.{Placed, Cut}
use Rattle.galley_file.specs.Character.{character_at, is_character}
use Rattle.galley_file.specs.Item.{is_cut, next_item}
use Rattle.galley_file.specs.ItemLaws.{next_none}
use Rattle.galley_items.specs.Here.{here_outcome, or_malformed, is_item, no_item}

module _ (g : List ℕ) (at : ℕ) where
  -- the part of the slice
  abbrev pub part_at : List ℕ
  part_at = take (length g - at) (drop at g)

  part_is : part_at ≡ drop at g
  part_is = take_all (length g - at) (drop at g) (simp length-drop (omega arith))

  by_part : or_malformed at (next_item New part_at) ≡ here_outcome g at
  unfolding here_outcome
  by_part = ap (λ (s : List ℕ). or_malformed at (next_item New s)) part_is

  by_next : (o : Option Item) → next_item New part_at ≡ o → or_malformed at o ≡ here_outcome g at
  by_next o e = sym (ap (or_malformed at) e) ∙ by_part

  pub here_character : is_character New part_at ≡ true → is_item (Placed (character_at New part_at 0)) ≡ here_outcome g at
  unfolding next_item
  here_character e = by_next (some (Placed (character_at New part_at 0))) (rw e)

  pub here_cut : is_character New part_at ≡ false → is_cut part_at ≡ true → is_item Cut ≡ here_outcome g at
  unfolding next_item
  here_cut e f = by_next (some Cut) (rw (e, f))

  pub here_none : is_character New part_at ≡ false → is_cut part_at ≡ false → no_item galley_malformed at ≡ here_outcome g at
  unfolding next_item
  here_none e f = by_next none (rw (e, f))

-- nothing stands past the end
pub past_end : (g : List ℕ) (at : ℕ) → length g < at → no_item galley_malformed at ≡ here_outcome g at
unfolding here_outcome
past_end g at h =
    let nothing : next_item New [] ≡ none = next_none New [] (λ e. omega arith) (λ e. omega arith) in
    sym (ap (or_malformed at) (ap (next_item New) (drop_of_length-le g {i = at} (omega arith)) ∙ nothing))
