-- The laws of galleys whose heights a DVI file holds.
--     low_checked     a galley that the check with the limit accepts is accepted by the check, and its heights are low
--     low_accepts     a galley that the check accepts and whose heights are low is accepted
--     low_made        and it is made into what its items give
--     low_refused     a galley that it refuses is made into that refusal
--     low_valid       valid items of low heights are valid with that limit, and raised the reverse
-- Assumes nothing.
use Rattle.std.specs.Prelude.{◌≡◌, refl, Bool, true, false, cond, List, [], ◌∷◌, ◌++◌, ℕ, ◌+◌, ltb, pos, length}
use Rattle.std.proofs.Common.{sym, ap, ◌∙◌, suc-ne-zero, arith, le-ltb, length-append}
use Rattle.std.proofs.Math.Option.{Option, none, some}
use Rattle.std.specs.Int.Signed.{le_z}
use Rattle.integers.specs.Parts.{integers, true_le_z}
use Rattle.octets.specs.Answer.{accepted, refused, refusal, written, galley_too_long}
use Rattle.octets.specs.FieldLaws.{both}
use Rattle.measure.specs.Place.{height_end, low_end}
use Rattle.galley_file.specs.declared.item.Item.{Item}
use Rattle.galley_file.specs.declared.item.Item.TheVariants.{Placed, Cut}
use Rattle.galley_file.specs.declared.form.Form.TheVariants.{New}
use Rattle.galley_file.specs.Form.{greatest_height, max_galley}
use Rattle.galley_file.specs.CharacterLaws.{valid_parts, parts_valid, height_range}
use Rattle.galley_file.specs.Item.{valid_item, item_field, item_size, is_low, characters_of}
use Rattle.galley_file.specs.ItemLaws.{length_item_field}
use Rattle.galley_file.specs.Galley.{max_items, AllValid, nil, more, fields, Reading, whole, malformed, read_galley, items_in, items_of}
use Rattle.galley_file.specs.GalleyLaws.{checked, read_as}
use Rattle.galley_file.specs.ReadingLaws.{reading_valid}
use Rattle.galley_file.specs.Outcome.{count_outcome, check_outcome}
use Rattle.galley_check.specs.Low.{first_high, low_count, low_check, low_outcome, or_too_great, low_reading, low_result}

-- ---- the first greater height

-- past low items, what follows decides
pub high_past : (is js : List Item) (at : ℕ) → first_high is at ≡ none → first_high (is ++ js) at ≡ first_high js (at + length (fields New is))
unfolding first_high fields
high_past [] js at e = let z : at + 0 ≡ at = omega arith in rw z
high_past (i ∷ is) js at e = go (is_low i) refl (high_past is js (at + item_size New i)) e
  where
    go : (t : Bool) → is_low i ≡ t → (first_high is (at + item_size New i) ≡ none → first_high (is ++ js) (at + item_size New i) ≡ first_high js (at + item_size New i + length (fields New is)))
        → cond t (first_high is (at + item_size New i)) (some at) ≡ none → cond t (first_high (is ++ js) (at + item_size New i)) (some at) ≡ first_high js (at + length (item_field New i ++ fields New is))
    go true q past e =
        let z : at + item_size New i + length (fields New is) ≡ at + length (item_field New i ++ fields New is) = omega (arith, length-append (item_field New i) (fields New is), length_item_field New i) in
        past e ∙ ap (first_high js) z
    go false q past e = absurd (suc-ne-zero 0 cc)

pub low_one : (i : Item) (at : ℕ) → is_low i ≡ true → first_high (i ∷ []) at ≡ none
unfolding first_high
low_one i at e = rw e

pub high_here : (i : Item) (is : List Item) (at : ℕ) → is_low i ≡ false → first_high (i ∷ is) at ≡ some at
unfolding first_high
high_here i is at e = rw e

-- ---- the items

low_item : (i : Item) → valid_item (greatest_height New) i ≡ true → is_low i ≡ true → valid_item low_end i ≡ true
low_item (Placed c) v l =
    let p = valid_parts v in
    let h = both (le_z (pos 0) c.height.0) (le_z c.height.0 height_end) p.height in
    parts_valid (record { font = p.font; first = p.first; last = p.last; across = p.across; height = rw (h.0, l) })
low_item Cut v l = refl

pub low_valid : (is : List Item) (at : ℕ) → AllValid (greatest_height New) is → first_high is at ≡ none → AllValid low_end is
unfolding first_high
low_valid [] at nil e = nil
low_valid (i ∷ is) at (more v vs) e = go (is_low i) refl (low_valid is (at + item_size New i) vs) e
  where
    go : (t : Bool) → is_low i ≡ t → (first_high is (at + item_size New i) ≡ none → AllValid low_end is)
        → cond t (first_high is (at + item_size New i)) (some at) ≡ none → AllValid low_end (i ∷ is)
    go true q rest e = more (low_item i v q) (rest e)
    go false q rest e = absurd (suc-ne-zero 0 cc)

item_low : (i : Item) → valid_item low_end i ≡ true → is_low i ≡ true
item_low (Placed c) v = (both (le_z (pos 0) c.height.0) (le_z c.height.0 low_end) (valid_parts v).height).1
item_low Cut v = refl

pub valid_low : (is : List Item) (at : ℕ) → AllValid low_end is → first_high is at ≡ none
unfolding first_high
valid_low [] at nil = refl
valid_low (i ∷ is) at (more v vs) = rw (item_low i v) (valid_low is (at + item_size New i) vs)

-- what is valid with that limit is valid
raised_item : (i : Item) → valid_item low_end i ≡ true → valid_item height_end i ≡ true
raised_item (Placed c) v =
    let p = valid_parts v in
    let h = height_range p in
    let l : le_z (pos 0) c.height.0 ≡ true = true_le_z (pos 0) c.height.0 (omega (integers, h.0)) in
    let u : le_z c.height.0 height_end ≡ true = true_le_z c.height.0 height_end (omega (integers, h.1)) in
    parts_valid (record { font = p.font; first = p.first; last = p.last; across = p.across; height = rw (l, u) })
raised_item Cut v = refl

pub raised : {is : List Item} → AllValid low_end is → AllValid height_end is
raised nil = nil
raised (more {i = i} v vs) = more (raised_item i v) (raised vs)

-- ---- the check with the limit

pub record LowChecked (g : List ℕ) (count : ℕ) : Type 0 where
  pub checked : accepted count ≡ check_outcome New g
  pub low : first_high (items_of New g) 0 ≡ none
  pub valid : AllValid low_end (items_of New g)

pub low_checked : (g : List ℕ) (count : ℕ) → accepted count ≡ low_outcome g → LowChecked g count
unfolding low_outcome check_outcome read_galley items_of
low_checked g count e = go (ltb (max_galley New) (length g)) refl (read_galley New g) refl e
  where
    none_high : (is : List Item) (o : Option ℕ) → accepted count ≡ low_count o is → (o ≡ none) × (accepted count ≡ accepted (length (characters_of is)))
    none_high is none h = (refl, h)
    none_high is (some p) h = absurd (suc-ne-zero 0 cc)

    go : (t : Bool) → ltb (max_galley New) (length g) ≡ t → (r : Reading) → read_galley New g ≡ r → accepted count ≡ cond t (refused galley_too_long 0) (low_check r) → LowChecked g count
    go true l r q h = absurd (suc-ne-zero 0 cc)
    go false l (whole is) q h =
        let n = none_high is (first_high is 0) h in
        record {
          checked = rw (l, q) (n.1 ∙ ap accepted (omega arith));
          low = ap (λ (r : Reading). first_high (items_in r) 0) q ∙ n.0;
          valid = rw q (low_valid is 0 (reading_valid New is max_items g 0 0 q) n.0);
        }
    go false l (malformed p) q h = absurd (suc-ne-zero 0 cc)

-- where the check refuses, so does the check with the limit
pub check_refused : (g : List ℕ) (number place : ℕ) → refused number place ≡ check_outcome New g → refused number place ≡ low_outcome g
unfolding check_outcome low_outcome
check_refused g number place e = go (ltb (max_galley New) (length g)) (read_galley New g) e
  where
    go : (t : Bool) (r : Reading) → refused number place ≡ cond t (refused galley_too_long 0) (count_outcome 0 r) → refused number place ≡ cond t (refused galley_too_long 0) (low_check r)
    go true r h = h
    go false (whole is) h = absurd (suc-ne-zero 0 cc)
    go false (malformed p) h = h

-- where the check accepts, the first greater height decides
pub low_by_items : (g : List ℕ) (count : ℕ) → accepted count ≡ check_outcome New g → low_outcome g ≡ low_count (first_high (items_of New g) 0) (items_of New g)
unfolding low_outcome
low_by_items g count e = rw (le-ltb _ _ (checked New g count e).fits, read_as New g count e)

-- it accepts a galley that the check accepts and whose heights are low
pub low_accepts : (g : List ℕ) (count : ℕ) (is : List Item) → check_outcome New g ≡ accepted count → read_galley New g ≡ whole is → AllValid low_end is → low_outcome g ≡ accepted count
unfolding items_of
low_accepts g count is e r v =
    let c = checked New g count (sym e) in
    let same : items_of New g ≡ is = ap items_in r in
    let n : length (characters_of is) ≡ count = ap (λ (x : Reading). length (characters_of (items_in x))) (sym r ∙ c.read) ∙ c.counted in
    low_by_items g count (sym e) ∙ ap (λ (l : List Item). low_count (first_high l 0) l) same ∙ rw (valid_low is 0 v) (ap accepted n)

pub low_made : (make : List Item → List ℕ) (g : List ℕ) (count : ℕ) → accepted count ≡ low_outcome g → low_result make g ≡ written (make (items_of New g))
unfolding low_result
low_made make g count e =
    let c = low_checked g count e in
    rw (le-ltb _ _ (checked New g count c.checked).fits, read_as New g count c.checked, c.low)

-- what the check with the limit refuses
pub low_refused : (make : List Item → List ℕ) (g : List ℕ) (number place : ℕ) → refused number place ≡ low_outcome g → refusal number place ≡ low_result make g
unfolding low_outcome low_result
low_refused make g number place e = go (ltb (max_galley New) (length g)) (read_galley New g) e
  where
    high : (is : List Item) (o : Option ℕ) → refused number place ≡ low_count o is → refusal number place ≡ or_too_great o (make is)
    high is none h = absurd (suc-ne-zero 0 cc)
    high is (some p) h = cc

    go : (t : Bool) (r : Reading) → refused number place ≡ cond t (refused galley_too_long 0) (low_check r) → refusal number place ≡ cond t (refusal galley_too_long 0) (low_reading make r)
    go true r h = cc
    go false (whole is) h = high is (first_high is 0) h
    go false (malformed p) h = cc
