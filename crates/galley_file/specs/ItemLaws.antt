-- An item's field and back, said once for characters and cuts.
--     next_field        the bytes that start with the field of a valid item have it as their next item
--     next_none         bytes with another tag have none
--     Next, next_is     what a next item tells of the bytes
--     field_next        bytes that have a next item are its field and what follows
--     next_item_at       the item at the place where one comes next
-- Assumes nothing.
use Rattle.std.specs.Prelude.{◌≡◌, Bool, cond, ◌&&◌, List, [], ◌∷◌, ◌++◌, ℕ, ◌+◌, ◌≤◌, leb, eqb, pos, length, get_or, drop, ◌≤ℤ◌}
use Rattle.std.proofs.Math.Path.{refl}
use Rattle.std.proofs.Common.{sym, ap, ◌∙◌, add_assoc, suc-ne-zero, arith, ne_eqb, eq-eqb, get_or-drop, drop-drop}
use Rattle.std.proofs.Math.Bool.{true, false}
use Rattle.std.proofs.Math.Option.{Option, none, some}
use Rattle.octets.specs.Octets.{Bytes, nat_at, bytes}
use Rattle.octets.specs.Field.{field, starts_field}
use Rattle.octets.specs.FieldLaws.{field_starts, starts, starts_field_lem}
use Rattle.galley_file.specs.declared.character.Character.{Character}
use Rattle.galley_file.specs.declared.item.Item.{Item}
use Rattle.galley_file.specs.declared.item.Item.TheVariants.{Placed, Cut}
use Rattle.galley_file.specs.declared.form.Form.{Form}
use Rattle.galley_file.specs.declared.form.Form.TheVariants.{Old, New}
use Rattle.galley_file.specs.Form.{character_tag, height_bytes, body_bytes, character_size, greatest_height}
use Rattle.galley_file.specs.Character.{character_at, is_character}
use Rattle.galley_file.specs.CharacterLaws.{length_character_field, character_at_field, field_is_character, drop_field, height_number, read_character, is_character_field}
use Rattle.galley_file.specs.Item.{field_of_cut, is_cut, valid_item, item_field, item_size, next_item, item_at, WholeAt, tally, characters_of, cuts_of}

pub length_item_field : (form : Form) (i : Item) → length (item_field form i) ≡ item_size form i
unfolding field_of_cut field bytes
length_item_field form (Placed c) = length_character_field form c
length_item_field form Cut = refl

pub size_least : (form : Form) (i : Item) → 3 ≤ item_size form i
size_least Old (Placed c) = omega arith
size_least New (Placed c) = omega arith
size_least form Cut = omega arith

pub size_most : (form : Form) (i : Item) → item_size form i ≤ 11
size_most Old (Placed c) = omega arith
size_most New (Placed c) = omega arith
size_most form Cut = omega arith

pub drop_item_field : (form : Form) (i : Item) (rest : List ℕ) → drop (item_size form i) (item_field form i ++ rest) ≡ rest
unfolding field_of_cut field bytes
drop_item_field form (Placed c) rest = drop_field form c rest
drop_item_field form Cut rest = refl

-- ---- another tag

other_tag : (tag len : ℕ) (s : List ℕ) → (get_or s 0 0 ≡ tag → ⊥) → starts_field tag len s ≡ false
unfolding starts_field
other_tag tag len s h = rw (ne_eqb _ _ h) (go (leb (3 + len) (length s)))
  where
    go : (t : Bool) → (t && false && eqb (nat_at 2 1 s) len) ≡ false
    go true = refl
    go false = refl

no_character_lem : (form : Form) (s : List ℕ) → (get_or s 0 0 ≡ character_tag form → ⊥) → is_character form s ≡ false
unfolding is_character
no_character_lem form s h = rw (other_tag (character_tag form) (body_bytes form) s h)

pub next_none : (form : Form) (s : List ℕ) → (get_or s 0 0 ≡ character_tag form → ⊥) → (get_or s 0 0 ≡ 6 → ⊥) → next_item form s ≡ none
unfolding next_item is_cut
next_none form s h k = rw (no_character_lem form s h, other_tag 6 0 s k)

-- ---- a field, and what it holds

cut_tag : (form : Form) (rest : List ℕ) → get_or (field_of_cut ++ rest) 0 0 ≡ character_tag form → ⊥
unfolding field_of_cut field
cut_tag Old rest e = omega arith
cut_tag New rest e = omega arith

cut_starts : (rest : List ℕ) → starts_field 6 0 (field_of_cut ++ rest) ≡ true
unfolding field_of_cut
cut_starts rest = field_starts 6 [] rest 0 refl (omega arith)

pub next_field : (form : Form) (i : Item) → valid_item (greatest_height form) i ≡ true → (rest : List ℕ) → next_item form (item_field form i ++ rest) ≡ some i
unfolding next_item is_cut
next_field form (Placed c) v rest = rw (field_is_character form c v rest, character_at_field form c v rest)
next_field form Cut v rest = rw (no_character_lem form (field_of_cut ++ rest) (cut_tag form rest), cut_starts rest)

pub record Next (form : Form) (s : List ℕ) (i : Item) : Type 0 where
  pub is_valid : valid_item (greatest_height form) i ≡ true
  pub long : item_size form i ≤ length s
  pub here : item_at form s 0 ≡ i

-- the three cases of `next_item`
module _ (form : Form) (s : List ℕ) (P : Option Item → Type 0) (character : is_character form s ≡ true → P (some (Placed (character_at form s 0))))
    (cut : is_character form s ≡ false → is_cut s ≡ true → P (some Cut)) (neither : is_character form s ≡ false → is_cut s ≡ false → P none) where
  pub next_cases : P (next_item form s)
  unfolding next_item
  next_cases = go (is_character form s) refl (is_cut s) refl
    where
      go : (t : Bool) → is_character form s ≡ t → (u : Bool) → is_cut s ≡ u → P (cond t (some (Placed (character_at form s 0))) (cond u (some Cut) none))
      go true e u f = character e
      go false e true f = cut e f
      go false e false f = neither e f

pub cut_long : (s : List ℕ) → is_cut s ≡ true → 3 ≤ length s
unfolding is_cut
cut_long s e = omega (arith, (starts e).long)

cut_field : (s : List ℕ) → Bytes s → is_cut s ≡ true → s ≡ field_of_cut ++ drop 3 s
unfolding is_cut field_of_cut
cut_field s b e = starts_field_lem 6 0 s b e

tag_cut : (s : List ℕ) → is_cut s ≡ true → get_or s 0 0 ≡ 6
unfolding is_cut
tag_cut s e = (starts e).tag_is

tag_character : (form : Form) (s : List ℕ) → is_character form s ≡ true → get_or s 0 0 ≡ character_tag form
tag_character form s e = (starts (read_character form s e).head).tag_is

other_than_cut : (form : Form) → character_tag form ≡ 6 → ⊥
other_than_cut Old e = omega arith
other_than_cut New e = omega arith

pub next_is : (form : Form) (s : List ℕ) (i : Item) → next_item form s ≡ some i → Next form s i
unfolding item_at
next_is form s i =
    next_cases form s (λ o. o ≡ some i → Next form s i)
    (λ e q.
    let w : Placed (character_at form s 0) ≡ i = cc in
    let r = read_character form s e in
    let t : (get_or s 0 0 ≡ 6 → ⊥) = λ z. other_than_cut form (sym (tag_character form s e) ∙ z) in
    rw (← w) (record { is_valid = r.is_valid; long = r.long; here = rw (ne_eqb _ _ t) }))
    (λ e f q.
    let w : Cut ≡ i = cc in
    rw (← w) (record { is_valid = refl; long = cut_long s f; here = rw (eq-eqb _ _ (tag_cut s f)) }))
    (λ e f q. absurd (suc-ne-zero 0 cc))

-- bytes that have a next item are its field and what follows
pub field_next : (form : Form) (s : List ℕ) (i : Item) → Bytes s → next_item form s ≡ some i → s ≡ item_field form i ++ drop (item_size form i) s
field_next form s i b =
    next_cases form s (λ o. o ≡ some i → s ≡ item_field form i ++ drop (item_size form i) s)
    (λ e q. let w : Placed (character_at form s 0) ≡ i = cc in rw (← w) (is_character_field form s b e))
    (λ e f q. let w : Cut ≡ i = cc in rw (← w) (cut_field s b f))
    (λ e f q. absurd (suc-ne-zero 0 cc))

shift : (form : Form) (s : List ℕ) (at i : ℕ) → item_at form (drop at s) i ≡ item_at form s (at + i)
unfolding item_at character_at
shift form s at i = simp (drop-drop, get_or-drop, add_assoc)

pub next_item_at : (form : Form) (s : List ℕ) (at : ℕ) (i : Item) → next_item form (drop at s) ≡ some i → item_at form s at ≡ i
next_item_at form s at i e = let z : at + 0 ≡ at = omega arith in ap (item_at form s) (sym z) ∙ sym (shift form s at 0) ∙ (next_is form (drop at s) i e).here

-- what reading a character asks: an item of another tag than a cut's is one
pub whole_character : (form : Form) (s : List ℕ) (i : ℕ) → WholeAt form s i → (get_or s i 0 ≡ 6 → ⊥) → (i + character_size form ≤ length s) × (pos (nat_at (height_bytes form) (i + 5) s) ≤ℤ greatest_height form)
unfolding item_at
whole_character form s i w h =
    let e : item_at form s i ≡ Placed (character_at form s i) = rw (ne_eqb _ _ h) in
    (omega (arith, w.inside, ap (item_size form) e), height_number form s i (sym (ap (valid_item (greatest_height form)) e) ∙ w.is_valid))

-- ---- counting

pub tally_few : (i : Item) → tally i ≤ 1
tally_few (Placed c) = omega arith
tally_few Cut = omega arith

pub count_item : (i : Item) (is : List Item) → length (characters_of (i ∷ is)) ≡ tally i + length (characters_of is)
unfolding characters_of
count_item (Placed c) is = omega arith
count_item Cut is = omega arith

-- characters and cuts are all
pub all_counted : (is : List Item) → length (characters_of is) + cuts_of is ≡ length is
unfolding characters_of cuts_of
all_counted [] = refl
all_counted (Placed c ∷ is) = omega (arith, all_counted is)
all_counted (Cut ∷ is) = omega (arith, all_counted is)

pub characters_append : (is js : List Item) → characters_of (is ++ js) ≡ characters_of is ++ characters_of js
unfolding characters_of
characters_append [] js = refl
characters_append (Placed c ∷ is) js = ap (λ (l : List Character). c ∷ l) (characters_append is js)
characters_append (Cut ∷ is) js = characters_append is js

pub cuts_append : (is js : List Item) → cuts_of (is ++ js) ≡ cuts_of is + cuts_of js
unfolding cuts_of
cuts_append [] js = omega arith
cuts_append (Placed c ∷ is) js = cuts_append is js
cuts_append (Cut ∷ is) js = omega (arith, cuts_append is js)
