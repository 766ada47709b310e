-- Checking heights: the items gone by have heights that a DVI file holds.
-- Assumes nothing.
use Rattle.std.specs.Prelude.{◌≡◌, true, false, List, [], ◌∷◌, ◌++◌, ℕ, ◌+◌, length}
use Rattle.std.proofs.Common.{sym, ap, ◌∙◌, arith}
use Rattle.std.proofs.Math.Option.{none, some}
use Rattle.octets.specs.Answer.{accepted, refused, height_too_great}
use Rattle.galley_file.specs.declared.item.Item.{Item}
use Rattle.galley_file.specs.declared.form.Form.TheVariants.{New}
use Rattle.galley_file.specs.Item.{is_low, characters_of}
use Rattle.galley_file.specs.Galley.{fields, items_of}
use Rattle.galley_file.specs.GalleyLaws.{checked}
use Rattle.galley_file.specs.Outcome.{check_outcome}
use Rattle.galley_check.specs.Low.{first_high, low_count, low_outcome}
use Rattle.galley_check.specs.LowLaws.{high_past, low_one, high_here, low_by_items}

module _ (done : List Item) (low : first_high done 0 ≡ none) where
  past : (is : List Item) → first_high (done ++ is) 0 ≡ first_high is (length (fields New done))
  past is = let z : 0 + length (fields New done) ≡ length (fields New done) = omega arith in high_past done is 0 low ∙ ap (first_high is) z

  pub low_next : (i : Item) → is_low i ≡ true → first_high (done ++ (i ∷ [])) 0 ≡ none
  low_next i q = past (i ∷ []) ∙ low_one i (length (fields New done)) q

  module _ (g : List ℕ) (count : ℕ) (e : accepted count ≡ check_outcome New g) where
    -- the first item of a greater height
    pub high_next : (i : Item) (rest : List Item) → items_of New g ≡ done ++ (i ∷ rest) → is_low i ≡ false → refused height_too_great (length (fields New done)) ≡ low_outcome g
    high_next i rest a q =
        let h : first_high (items_of New g) 0 ≡ some (length (fields New done)) =
        ap (λ (is : List Item). first_high is 0) a ∙ past (i ∷ rest) ∙ high_here i rest (length (fields New done)) q in
        sym (low_by_items g count e ∙ rw h)

    -- no item of a greater height
    pub low_all : items_of New g ≡ done → accepted count ≡ low_outcome g
    unfolding items_of
    low_all a =
        let k = checked New g count e in
        let h : first_high (items_of New g) 0 ≡ none = ap (λ (is : List Item). first_high is 0) a ∙ low in
        let n : length (characters_of (items_of New g)) ≡ count = rw k.read k.counted in
        sym (low_by_items g count e ∙ ap (λ o. low_count o (items_of New g)) h ∙ ap accepted n)
