-- The counts after an item.
-- Assumes nothing.
use mathlib.Core.Path.{◌≡◌, refl, ap}
use mathlib.Core.List.{[], ◌∷◌, ◌++◌}
use mathlib.Core.Option.{Option, none, some}
use Prim.Native.Nat.{ℕ, ◌+◌, ◌≤◌, ◌<◌}
use native.Mathlib.Nat.{suc-ne-zero}
use native.Mathlib.Omega.{arith}
use borrow.Author.Tests.{lt-ltb, le-ltb}
use lib.ListN.{length, length-append}
use Rattle.galley_file.specs.declared.character.Character.{Character}
use Rattle.galley_file.specs.declared.item.Item.{Item}
use Rattle.galley_file.specs.declared.item.Item.TheVariants.{Placed, Cut}
use Rattle.galley_file.specs.Item.{characters_of, cuts_of}
use Rattle.galley_file.specs.ItemLaws.{all_counted, characters_append, cuts_append}
use Rattle.galley_file.specs.Galley.{max_items}
use Rattle.dvi_galley.specs.Back.{Made, nothing, made, broken, with_one_item}
use Rattle.dvi_back.specs.Tally.{tally_of}
use Rattle.dvi_back.specs.declared.tally.Tally.TheVariants.{Nothing, Items, Broken}

pub nothing_is : (b : Made) → Nothing ≡ tally_of b → b ≡ nothing
nothing_is nothing e = refl
nothing_is (made is) e = absurd (suc-ne-zero 0 cc)
nothing_is (broken p) e = absurd (suc-ne-zero 0 cc)

pub broken_is : (place : ℕ) (b : Made) (at : ℕ) (o : Option Item) → Broken place ≡ tally_of b → Broken place ≡ tally_of (with_one_item b at o)
unfolding with_one_item
broken_is place nothing at o e = absurd (suc-ne-zero 0 cc)
broken_is place (made is) at o e = absurd (suc-ne-zero 0 cc)
broken_is place (broken p) at o e = e

module _ (cuts characters at : ℕ) where
  pub full_item : (b : Made) (o : Option Item) → Items cuts characters ≡ tally_of b → max_items ≤ cuts + characters → Broken at ≡ tally_of (with_one_item b at o)
  unfolding with_one_item
  full_item nothing o e h = absurd (suc-ne-zero 0 cc)
  full_item (made is) none e h = refl
  full_item (made is) (some i) e h =
      let p : cuts ≡ cuts_of is = cc in
      let q : characters ≡ length (characters_of is) = cc in
      rw (le-ltb (length is) max_items (omega (arith, p, q, all_counted is)))
  full_item (broken p) o e h = absurd (suc-ne-zero 0 cc)

  pub no_item : (b : Made) → Items cuts characters ≡ tally_of b → Broken at ≡ tally_of (with_one_item b at none)
  unfolding with_one_item
  no_item nothing e = absurd (suc-ne-zero 0 cc)
  no_item (made is) e = refl
  no_item (broken p) e = absurd (suc-ne-zero 0 cc)

  pub character_item : (b : Made) (c : Character) → Items cuts characters ≡ tally_of b → cuts + characters < max_items → Items cuts (characters + 1) ≡ tally_of (with_one_item b at (some (Placed c)))
  unfolding with_one_item characters_of cuts_of
  character_item nothing c e h = absurd (suc-ne-zero 0 cc)
  character_item (made is) c e h =
      let p : cuts ≡ cuts_of is = cc in
      let q : characters ≡ length (characters_of is) = cc in
      let u : cuts ≡ cuts_of (is ++ (Placed c ∷ [])) = omega (arith, p, cuts_append is (Placed c ∷ [])) in
      let v : characters + 1 ≡ length (characters_of (is ++ (Placed c ∷ []))) = omega (arith, q, ap length (characters_append is (Placed c ∷ [])), length-append (characters_of is) (c ∷ [])) in
      rw (lt-ltb (length is) max_items (omega (arith, p, q, all_counted is))) (λ k. Items (u k) (v k))
  character_item (broken p) c e h = absurd (suc-ne-zero 0 cc)

  pub cut_item : (b : Made) → Items cuts characters ≡ tally_of b → cuts + characters < max_items → Items (cuts + 1) characters ≡ tally_of (with_one_item b at (some Cut))
  unfolding with_one_item characters_of cuts_of
  cut_item nothing e h = absurd (suc-ne-zero 0 cc)
  cut_item (made is) e h =
      let p : cuts ≡ cuts_of is = cc in
      let q : characters ≡ length (characters_of is) = cc in
      let u : cuts + 1 ≡ cuts_of (is ++ (Cut ∷ [])) = omega (arith, p, cuts_append is (Cut ∷ [])) in
      let v : characters ≡ length (characters_of (is ++ (Cut ∷ []))) = omega (arith, q, ap length (characters_append is (Cut ∷ [])), length-append (characters_of is) []) in
      rw (lt-ltb (length is) max_items (omega (arith, p, q, all_counted is))) (λ k. Items (u k) (v k))
  cut_item (broken p) e h = absurd (suc-ne-zero 0 cc)
