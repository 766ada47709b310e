-- The laws of the format.
--     accepts             the bytes of valid items, at most 1,048,576 of them, are read as those items
--     accepts_check       and the check accepts them with the number of their characters
--     accepted_is         bytes that the check accepts are the bytes of the items that are read from them, which are valid
--     accepted_exactly    the check accepts exactly the galleys of at most 1,048,576 valid items
--     same_bytes          two accepted galleys from which the same items are read are the same bytes
--     galley_bytes        a galley of valid items is bytes
-- Assumes nothing.
use Rattle.std.specs.Prelude.{◌≡◌, refl, Bool, true, false, cond, List, [], ◌∷◌, ◌++◌, ◌↔◌, ℕ, zero, suc, ◌+◌, ◌*◌, ◌/◌, ◌^◌, ◌<◌, ◌≤◌, ltb, length}
use Rattle.std.proofs.Common.{sym, ap, ◌∙◌, append_assoc, append-nil, mod-lt, suc-ne-zero, arith, le-ltb, ltb-false, lit<, length-append}
use Rattle.octets.specs.Octets.{Bytes, bytes, residue, signed_bytes}
use Rattle.octets.specs.Field.{field, end_field}
use Rattle.octets.specs.FieldLaws.{length_end}
use Rattle.octets.specs.Answer.{accepted, refused, galley_too_long}
use Rattle.galley_file.specs.declared.character.Character.{Character}
use Rattle.galley_file.specs.declared.item.Item.{Item}
use Rattle.galley_file.specs.declared.form.Form.{Form}
use Rattle.galley_file.specs.declared.form.Form.TheVariants.{Old, New}
use Rattle.galley_file.specs.Form.{character_tag, height_bytes, character_size, greatest_height, max_galley}
use Rattle.galley_file.specs.declared.item.Item.TheVariants.{Placed, Cut}
use Rattle.galley_file.specs.Character.{valid, character_body, character_field}
use Rattle.galley_file.specs.CharacterLaws.{valid_parts}
use Rattle.galley_file.specs.Item.{field_of_cut, valid_item, item_field, characters_of, cuts_of}
use Rattle.galley_file.specs.ItemLaws.{length_item_field, all_counted}
use Rattle.galley_file.specs.Galley.{max_items, AllValid, nil, more, fields, galley, Reading, whole, malformed, read_galley, items_in, items_of}
use Rattle.galley_file.specs.Outcome.{count_outcome, check_outcome}
use Rattle.galley_file.specs.ReadingLaws.{reading_few, reading_valid, accept, decoded}

-- ---- the check

-- what an accepted check tells
pub record Checked (form : Form) (g : List ℕ) (count : ℕ) : Type 0 where
  pub items : List Item
  pub read : read_galley form g ≡ whole items
  pub counted : length (characters_of items) ≡ count
  pub few : length items ≤ max_items
  pub fits : length g ≤ max_galley form

pub checked : (form : Form) (g : List ℕ) (count : ℕ) → accepted count ≡ check_outcome form g → Checked form g count
unfolding check_outcome read_galley
checked form g count e = go (ltb (max_galley form) (length g)) refl (read_galley form g) refl e
  where
    go : (t : Bool) → ltb (max_galley form) (length g) ≡ t → (r : Reading) → read_galley form g ≡ r → accepted count ≡ cond t (refused galley_too_long 0) (count_outcome 0 r) → Checked form g count
    go true l r q h = absurd (suc-ne-zero 0 cc)
    go false l (whole is) q h =
        let k : count ≡ 0 + length (characters_of is) = cc in
        record { items = is; read = q; counted = omega arith; few = reading_few form is max_items g 0 0 q; fits = ltb-false _ _ l }
    go false l (malformed p) q h = absurd (suc-ne-zero 0 cc)

-- a galley within the limit that is read as items is accepted
pub read_accepted : (form : Form) (g : List ℕ) (is : List Item) → length g ≤ max_galley form → read_galley form g ≡ whole is → check_outcome form g ≡ accepted (length (characters_of is))
unfolding check_outcome
read_accepted form g is h e = rw (le-ltb (max_galley form) (length g) h, e) (ap accepted (omega arith))

-- the items of an accepted galley
pub read_as : (form : Form) (g : List ℕ) (count : ℕ) → accepted count ≡ check_outcome form g → read_galley form g ≡ whole (items_of form g)
unfolding items_of
read_as form g count e = let r = (checked form g count e).read in r ∙ ap whole (sym (ap items_in r))

-- ---- whole galleys

-- so many bytes for a character, and three for a cut
pub length_fields : (form : Form) (is : List Item) → length (fields form is) ≡ character_size form * length (characters_of is) + 3 * cuts_of is
unfolding fields characters_of cuts_of
length_fields Old [] = refl
length_fields New [] = refl
length_fields Old (Placed c ∷ is) = length-append (character_field Old c) (fields Old is) ∙ omega (arith, length_fields Old is, length_item_field Old (Placed c))
length_fields New (Placed c ∷ is) = length-append (character_field New c) (fields New is) ∙ omega (arith, length_fields New is, length_item_field New (Placed c))
length_fields form (Cut ∷ is) = length-append field_of_cut (fields form is) ∙ omega (arith, length_fields form is, length_item_field form Cut)

pub fields_append : (form : Form) (is js : List Item) → fields form (is ++ js) ≡ fields form is ++ fields form js
unfolding fields
fields_append form [] js = refl
fields_append form (i ∷ is) js =
    ap (λ (l : List ℕ). item_field form i ++ l) (fields_append form is js) ∙ sym (append_assoc (item_field form i) (fields form is) (fields form js))

pub fields_one : (form : Form) (i : Item) → fields form (i ∷ []) ≡ item_field form i
unfolding fields
fields_one form i = append-nil (item_field form i)

pub length_galley : (form : Form) (is : List Item) → length (galley form is) ≡ length (fields form is) + 7
unfolding galley
length_galley form is = let l = length_end (length (characters_of is)) in length-append (fields form is) (end_field (length (characters_of is))) ∙ (omega arith)

-- as many items as may be are within the limit
pub galley_fits : (form : Form) (is : List Item) → length is ≤ max_items → length (galley form is) ≤ max_galley form
galley_fits Old is h = omega (arith, length_galley Old is, length_fields Old is, all_counted is)
galley_fits New is h = omega (arith, length_galley New is, length_fields New is, all_counted is)

-- decode (encode is) = is
pub accepts : (form : Form) (is : List Item) → AllValid (greatest_height form) is → length is ≤ max_items → read_galley form (galley form is) ≡ whole is
unfolding read_galley galley
accepts form is v h =
    let n = length (characters_of is) in
    accept form is max_items 0 0 n v h (omega arith) (omega (arith, all_counted is))

-- the check accepts the galley of valid items, and counts their characters
pub accepts_check : (form : Form) (is : List Item) → AllValid (greatest_height form) is → length is ≤ max_items → check_outcome form (galley form is) ≡ accepted (length (characters_of is))
unfolding check_outcome
accepts_check form is v h =
    rw (le-ltb _ _ (galley_fits form is h), accepts form is v h) (ap accepted (omega arith))

-- what an accepted galley is
pub record Accepted (form : Form) (g : List ℕ) (count : ℕ) : Type 0 where
  pub items : List Item
  pub read : read_galley form g ≡ whole items
  pub bytes : g ≡ galley form items
  pub valid : AllValid (greatest_height form) items
  pub counted : length (characters_of items) ≡ count
  pub few : length items ≤ max_items

-- encode (decode g) = g
pub accepted_is : (form : Form) (g : List ℕ) (count : ℕ) → Bytes g → check_outcome form g ≡ accepted count → Accepted form g count
unfolding read_galley galley
accepted_is form g count b e =
    let c = checked form g count (sym e) in
    let z : 0 + length (characters_of c.items) ≡ length (characters_of c.items) = omega arith in
    record {
      items = c.items;
      read = c.read;
      bytes = decoded form c.items max_items g 0 0 b c.read ∙ ap (λ (n : ℕ). fields form c.items ++ end_field n) z;
      valid = reading_valid form c.items max_items g 0 0 c.read;
      counted = c.counted;
      few = c.few;
    }

-- two accepted galleys with the same items are the same bytes
pub same_bytes : (form : Form) (g h : List ℕ) (is : List Item) → Bytes g → Bytes h → read_galley form g ≡ whole is → read_galley form h ≡ whole is → g ≡ h
unfolding read_galley
same_bytes form g h is b d e f = decoded form is max_items g 0 0 b e ∙ sym (decoded form is max_items h 0 0 d f)

-- the check accepts exactly the galleys of lists of valid items
pub accepted_exactly : (form : Form) (g : List ℕ) → Bytes g
    → ((count : ℕ) × (check_outcome form g ≡ accepted count)) ↔ ((is : List Item) × AllValid (greatest_height form) is × (length is ≤ max_items) × (g ≡ galley form is))
accepted_exactly form g b = (
  λ p. let r = accepted_is form g p.0 b p.1 in (r.items, r.valid, r.few, r.bytes),
  λ p. (length (characters_of p.0), ap (check_outcome form) p.3 ∙ accepts_check form p.0 p.1 p.2),
)

-- ---- a galley is bytes

data Each : List ℕ → Type 0 where
  stop : Each []
  byte : {x : ℕ} {s : List ℕ} → x < 256 → Each s → Each (x ∷ s)

each : {s : List ℕ} → Each s → Bytes s
each stop i = lit< tt
each (byte h b) zero = h
each (byte h b) (suc i) = each b i

join : {s t : List ℕ} → Each s → Each t → Each (s ++ t)
join stop d = d
join (byte h b) d = byte h (join b d)

each_bytes : (k n : ℕ) → Each (bytes k n)
unfolding bytes
each_bytes zero n = stop
each_bytes (suc k) n = byte (mod-lt (n / 256 ^ k) (lit< tt)) (each_bytes k n)

each_field : (tag : ℕ) (body : List ℕ) → tag < 256 → Each body → Each (field tag body)
unfolding field
each_field tag body h b = byte h (join (each_bytes 2 (length body)) b)

tag_small : (form : Form) → character_tag form < 256
tag_small Old = lit< tt
tag_small New = lit< tt

each_character : (form : Form) (c : Character) → valid (greatest_height form) c ≡ true → Each (character_field form c)
unfolding character_field character_body signed_bytes
each_character form c v =
    let p = valid_parts v in
    let f : c.font < 256 = omega (arith, p.font) in
    let k : c.code < 256 = omega (arith, p.last) in
    each_field (character_tag form) (character_body form c) (tag_small form)
    (join (each_bytes 2 (residue 65536 c.x.0)) (join (each_bytes (height_bytes form) (residue (256 ^ height_bytes form) c.height.0)) (byte f (byte k stop))))

each_item : (form : Form) (i : Item) → valid_item (greatest_height form) i ≡ true → Each (item_field form i)
unfolding field_of_cut
each_item form (Placed c) v = each_character form c v
each_item form Cut v = each_field 6 [] (lit< tt) stop

each_fields : (form : Form) {is : List Item} → AllValid (greatest_height form) is → Each (fields form is)
unfolding fields
each_fields form nil = stop
each_fields form (more {i = i} v vs) = join (each_item form i v) (each_fields form vs)

pub galley_bytes : (form : Form) (is : List Item) → AllValid (greatest_height form) is → Bytes (galley form is)
unfolding galley end_field
galley_bytes form is v =
    let n = length (characters_of is) in
    each (join (each_fields form v) (each_field 2 (bytes 4 n) (lit< tt) (each_bytes 4 n)))
