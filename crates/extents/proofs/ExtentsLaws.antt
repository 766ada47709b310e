-- The laws of extents.
--     with_append, extents_append     characters in two parts
--     extents_are         what is kept character by character is the largest x and height, and the fonts met
--     largest_target      a largest number and its target, where targets grow with the number
--     largest_least, largest_most     its range
-- Assumes nothing.
use Rattle.std.specs.Prelude.{◌≡◌, refl, Bool, true, false, ◌<◌, ℤ, pos, ◌≤ℤ◌}
use Rattle.std.proofs.Common.{sym, subst, ◌∙◌, arith}
use Rattle.std.proofs.Math.Path.{ap}
use mathlib.Core.List.{List, [], ◌∷◌, ◌++◌, map, map-append, foldl, foldl-append, append-nil, append_assoc}
use Rattle.std.specs.Int.Signed.{lt_z}
use Rattle.integers.specs.Parts.{integers, max_z, max_left, max_right}
use Rattle.galley_file.specs.declared.character.Character.{Character}
use Rattle.galley_file.specs.declared.item.Item.{Item}
use Rattle.galley_file.specs.declared.item.Item.TheVariants.{Placed, Cut}
use Rattle.galley_file.specs.Item.{characters_of}
use Rattle.galley_file.specs.ItemLaws.{characters_append}
use Rattle.galley_file.specs.Galley.{AllValid, nil, more}
use Rattle.galley_file.specs.Character.{valid}
use Rattle.galley_file.specs.CharacterLaws.{valid_parts}
use Rattle.extents.specs.declared.Extents.{Extents}
use Rattle.extents.proofs.FontMarksLaws.{fonts_none, fonts_more}
use Rattle.extents.specs.Extents.{largest, x_in, height_in, ExtentsAre, no_extents, with_character, with_characters, extents_of, with_one_item}

pub largest_more : (zs : List ℤ) (z : ℤ) → largest (zs ++ (z ∷ [])) ≡ max_z (largest zs) z
unfolding largest
largest_more zs z = foldl-append max_z (pos 0) zs (z ∷ [])

-- the largest of one character more
pub largest_map : (f : Character → ℤ) (cs : List Character) (c : Character) → largest (map f (cs ++ (c ∷ []))) ≡ max_z (largest (map f cs)) (f c)
largest_map f cs c = ap largest (map-append f cs (c ∷ [])) ∙ largest_more (map f cs) (f c)

-- ---- kept character by character

pub with_append : (e : Extents) (cs ds : List Character) → with_characters e (cs ++ ds) ≡ with_characters (with_characters e cs) ds
unfolding with_characters
with_append e cs ds = foldl-append with_character e cs ds

pub extents_append : (cs ds : List Character) → extents_of (cs ++ ds) ≡ with_characters (extents_of cs) ds
unfolding extents_of
extents_append cs ds = with_append no_extents cs ds

pub with_item : (e : Extents) (is : List Item) (i : Item) → with_characters e (characters_of (is ++ (i ∷ []))) ≡ with_one_item (with_characters e (characters_of is)) i
unfolding characters_of with_characters
with_item e is (Placed c) = ap (with_characters e) (characters_append is (Placed c ∷ [])) ∙ with_append e (characters_of is) (c ∷ [])
with_item e is Cut = ap (with_characters e) (characters_append is (Cut ∷ []) ∙ append-nil (characters_of is))

pub extents_none : ExtentsAre no_extents []
unfolding no_extents largest
extents_none = record { x_is = refl; height_is = refl; fonts_are = fonts_none }

pub extents_more : (e : Extents) (cs : List Character) (c : Character) → ExtentsAre e cs → c.font < 120 → ExtentsAre (with_character e c) (cs ++ (c ∷ []))
unfolding with_character
extents_more e cs c a h =
    record {
      x_is = ap (λ (z : ℤ). max_z z (x_in c)) a.x_is ∙ sym (largest_map x_in cs c);
      height_is = ap (λ (z : ℤ). max_z z (height_in c)) a.height_is ∙ sym (largest_map height_in cs c);
      fonts_are = fonts_more e.fonts.low e.fonts.high cs c a.fonts_are h;
    }

extents_from : {top : ℤ} (e : Extents) (cs : List Character) (is : List Item) → AllValid top is → ExtentsAre e cs → ExtentsAre (with_characters e (characters_of is)) (cs ++ characters_of is)
unfolding characters_of with_characters
extents_from e cs [] nil a = subst (ExtentsAre e) (sym (append-nil cs)) a
extents_from e cs (Placed c ∷ is) (more v vs) a =
    subst (ExtentsAre (with_characters (with_character e c) (characters_of is))) (append_assoc cs (c ∷ []) (characters_of is))
    (extents_from (with_character e c) (cs ++ (c ∷ [])) is vs (extents_more e cs c a (omega (arith, (valid_parts v).font))))
extents_from e cs (Cut ∷ is) (more v vs) a = extents_from e cs is vs a

pub extents_are : {top : ℤ} (is : List Item) → AllValid top is → ExtentsAre (extents_of (characters_of is)) (characters_of is)
unfolding extents_of
extents_are is v = extents_from no_extents [] is v extents_none

-- ---- the largest of some numbers

max_cases : (P : ℤ → Type 0) (a b : ℤ) → (lt_z a b ≡ true → P b) → (lt_z a b ≡ false → P a) → P (max_z a b)
max_cases P a b f g = go (lt_z a b) refl
  where
    go : (t : Bool) → lt_z a b ≡ t → P (max_z a b)
    go true h = subst P (sym (max_right a b h)) (f h)
    go false h = subst P (sym (max_left a b h)) (g h)

max_least : (z a b : ℤ) → z ≤ℤ a → z ≤ℤ max_z a b
max_least z a b h = max_cases (λ m. z ≤ℤ m) a b (λ l. omega (integers, h, l)) (λ l. h)

max_most : (top a b : ℤ) → a ≤ℤ top → b ≤ℤ top → max_z a b ≤ℤ top
max_most top a b h k = max_cases (λ m. m ≤ℤ top) a b (λ l. k) (λ l. h)

least_from : (z a : ℤ) (zs : List ℤ) → z ≤ℤ a → z ≤ℤ foldl max_z a zs
least_from z a [] h = h
least_from z a (b ∷ zs) h = least_from z (max_z a b) zs (max_least z a b h)

pub largest_least : (zs : List ℤ) → pos 0 ≤ℤ largest zs
unfolding largest
largest_least zs = least_from (pos 0) (pos 0) zs (omega integers)

module _ {height : ℤ} (g : Character → ℤ) (top : ℤ) (each : (c : Character) → valid height c ≡ true → g c ≤ℤ top) where
  most_from : (z : ℤ) (is : List Item) → AllValid height is → z ≤ℤ top → foldl max_z z (map g (characters_of is)) ≤ℤ top
  unfolding characters_of
  most_from z [] nil h = h
  most_from z (Placed c ∷ is) (more v vs) h = most_from (max_z z (g c)) is vs (max_most top z (g c) h (each c v))
  most_from z (Cut ∷ is) (more v vs) h = most_from z is vs h

  pub largest_most : (is : List Item) → AllValid height is → pos 0 ≤ℤ top → largest (map g (characters_of is)) ≤ℤ top
  unfolding largest
  largest_most is v h = most_from (pos 0) is v h

-- ---- a target that grows with the number

module _ (f : ℤ → ℤ) (keeps : (a b : ℤ) → a ≤ℤ b → f a ≤ℤ f b) where
  max_target : (a b : ℤ) → max_z (f a) (f b) ≡ f (max_z a b)
  max_target a b =
      max_cases (λ m. max_z (f a) (f b) ≡ f m) a b
      (λ h. let k : f a ≤ℤ f b = keeps a b (omega (integers, h)) in max_cases (λ m. m ≡ f b) (f a) (f b) (λ l. refl) (λ l. omega (integers, k, l)))
      (λ h. let k : f b ≤ℤ f a = keeps b a (omega (integers, h)) in max_cases (λ m. m ≡ f a) (f a) (f b) (λ l. omega (integers, k, l)) (λ l. refl))

  module _ (g : Character → ℤ) where
    target_from : (z : ℤ) (cs : List Character) → foldl max_z (f z) (map (λ (c : Character). f (g c)) cs) ≡ f (foldl max_z z (map g cs))
    target_from z [] = refl
    target_from z (c ∷ cs) = ap (λ (y : ℤ). foldl max_z y (map (λ (c : Character). f (g c)) cs)) (max_target z (g c)) ∙ target_from (max_z z (g c)) cs

    pub largest_target : f (pos 0) ≡ pos 0 → (cs : List Character) → largest (map (λ (c : Character). f (g c)) cs) ≡ f (largest (map g cs))
    unfolding largest
    largest_target e cs = ap (λ (z : ℤ). foldl max_z z (map (λ (c : Character). f (g c)) cs)) (sym e) ∙ target_from (pos 0) cs
