-- The item of a mark is the one whose target it shows.
--     item_mark         the mark that shows an item, after n pages
--     marks_of_next     the marks of a list of items, by its first
--     item_is          the item that a mark shows is valid, and the mark is its mark
--     is_item_lem          the mark of a valid item shows that item
-- Assumes nothing.
use Rattle.std.specs.Prelude.{◌≡◌, refl, Bool, true, cond, List, [], ◌∷◌, ℕ, suc, ◌+◌, ℤ, pos, negsuc}
use Rattle.std.proofs.Common.{sym, ap, ◌∙◌, suc-ne-zero, arith}
use Rattle.std.proofs.Math.Option.{Option, none, some}
use Rattle.integers.specs.Equality.{eq_z, eq_z_true, true_eq_z}
use Rattle.octets.specs.OctetsLaws.{by_cond}
use Rattle.measure.specs.Place.{height_end}
use Rattle.measure.specs.Target.{x_target, y_target}
use Rattle.galley_file.specs.declared.character.Character.{Character}
use Rattle.galley_file.specs.declared.item.Item.{Item}
use Rattle.galley_file.specs.declared.item.Item.TheVariants.{Placed, Cut}
use Rattle.galley_file.specs.Character.{valid}
use Rattle.galley_file.specs.CharacterLaws.{valid_parts, x_range, height_range}
use Rattle.galley_file.specs.Item.{valid_item, cuts_of}
use Rattle.sheet.specs.Sheet.{Mark, page_mark, char_mark, rule_mark}
use Rattle.dvi.specs.Demand3.{character_mark, marks_of}
use Rattle.dvi_galley.specs.Target.{x_of_target, height_of_target}
use Rattle.dvi_galley.proofs.TargetLaws.{x_of_target_x_target, x_target_x_of_target, height_of_target_y_target, y_target_height_of_target}
use Rattle.dvi_galley.specs.Back.{if_valid, character_shown, placed_item, item_shown}

-- the mark that shows an item, after n pages
abbrev pub item_mark : ℕ → Item → Mark
item_mark n (Placed c) = character_mark c
item_mark n Cut = page_mark (pos (suc n))

pub marks_of_next : (n : ℕ) (i : Item) (is : List Item) → marks_of n (i ∷ is) ≡ item_mark n i ∷ marks_of (n + cuts_of (i ∷ [])) is
unfolding marks_of cuts_of
marks_of_next n (Placed c) is = ap (λ (k : ℕ). character_mark c ∷ marks_of k is) (omega arith)
marks_of_next n Cut is = ap (λ (k : ℕ). page_mark (pos (suc n)) ∷ marks_of k is) (omega arith)

-- what a valid character at these places tells
valid_is : (X Y : ℤ) (d c : Character) → x_target d.x.0 ≡ X → y_target d.height.0 ≡ Y → if_valid d ≡ some c
    → (char_mark X Y (pos d.font) d.code ≡ character_mark c) × (valid height_end c ≡ true)
unfolding character_mark
valid_is X Y d c p q =
    by_cond (λ (o : Option Character). o ≡ some c → (char_mark X Y (pos d.font) d.code ≡ character_mark c) × (valid height_end c ≡ true)) (valid height_end d) (some d) none
    (λ v e.
    let s : d ≡ c = cc in
    ((λ i. char_mark (sym p i) (sym q i) (pos d.font) d.code) ∙ ap character_mark s, ap (valid height_end) (sym s) ∙ v))
    (λ v e. absurd (suc-ne-zero 0 cc))

character_is : (X Y F : ℤ) (k : ℕ) (ox oh : Option ℤ) (c : Character) → ((x : ℤ) → ox ≡ some x → x_target x ≡ X) → ((h : ℤ) → oh ≡ some h → y_target h ≡ Y)
    → character_shown ox oh F k ≡ some c → (char_mark X Y F k ≡ character_mark c) × (valid height_end c ≡ true)
unfolding character_shown
character_is X Y (pos f) k (some x) (some h) c p q e =
    valid_is X Y (record { x = record { 0 = x }; height = record { 0 = h }; font = f; code = k }) c (p x refl) (q h refl) e
character_is X Y (negsuc f) k (some x) (some h) c p q e = absurd (suc-ne-zero 0 cc)
character_is X Y F k (some x) none c p q e = absurd (suc-ne-zero 0 cc)
character_is X Y F k none oh c p q e = absurd (suc-ne-zero 0 cc)

pub item_is : (n : ℕ) (m : Mark) (i : Item) → item_shown n m ≡ some i → (m ≡ item_mark n i) × (valid_item height_end i ≡ true)
unfolding item_shown
item_is n (page_mark z) i f =
    by_cond (λ (o : Option Item). o ≡ some i → (page_mark z ≡ item_mark n i) × (valid_item height_end i ≡ true)) (eq_z z (pos (suc n))) (some Cut) none
    (λ q e.
    let s : Cut ≡ i = cc in
    (ap page_mark (eq_z_true z (pos (suc n)) q) ∙ ap (item_mark n) s, ap (valid_item height_end) (sym s)))
    (λ q e. absurd (suc-ne-zero 0 cc))
    f
item_is n (char_mark X Y F k) i e = go (character_shown (x_of_target X) (height_of_target Y) F k) refl e
  where
    go : (o : Option Character) → character_shown (x_of_target X) (height_of_target Y) F k ≡ o → placed_item o ≡ some i
        → (char_mark X Y F k ≡ item_mark n i) × (valid_item height_end i ≡ true)
    go (some c) q d =
        let s : Placed c ≡ i = cc in
        let r = character_is X Y F k (x_of_target X) (height_of_target Y) c (x_target_x_of_target X) (y_target_height_of_target Y) q in
        (r.0 ∙ ap (item_mark n) s, ap (valid_item height_end) (sym s) ∙ r.1)
    go none q d = absurd (suc-ne-zero 0 cc)
item_is n (rule_mark kind x y h w) i e = absurd (suc-ne-zero 0 cc)

pub is_item_lem : (n : ℕ) (i : Item) → valid_item height_end i ≡ true → item_shown n (item_mark n i) ≡ some i
unfolding item_shown character_mark character_shown
is_item_lem n (Placed c) v =
    let p = valid_parts v in
    let x = x_of_target_x_target c.x.0 (x_range p).0 (x_range p).1 in
    let h = height_of_target_y_target c.height.0 (height_range p).0 in
    (λ j. placed_item (character_shown (x j) (h j) (pos c.font) c.code)) ∙ ap (λ (b : Bool). placed_item (cond b (some c) none)) v
is_item_lem n Cut v = ap (λ (b : Bool). cond b (some Cut) none) (true_eq_z (pos (suc n)) (pos (suc n)) refl)
