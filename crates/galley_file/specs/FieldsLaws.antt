-- The laws of a run of whole fields.
--     field_items_valid       its items are valid
--     items_fields            the fields of valid items hold these items
--     fields_whole            and are whole fields
--     fields_more, length_more, fields_room     the fields of one item more, and the room for it among those of all
--     valid_turn              each of a list of valid items is valid
--     NextField, next_field_is    a run that is not empty starts with the field of its first item, and holds the others after it
--     fields_ended            an empty run holds no item
--     galley_long, galley_fields, galley_valid     an accepted galley: its length, its bytes before End, and its items
--     galley_run              the run of its fields, and the items that it holds
-- Assumes nothing.
use Rattle.std.specs.Prelude.{◌≡◌, refl, true, List, [], ◌∷◌, ◌++◌, ℕ, ℤ, zero, suc, ◌+◌, ◌-◌, ◌<◌, ◌≤◌, length, take, drop}
use Rattle.std.proofs.Common.{sym, ap, subst, ◌∙◌, append_assoc, arith, length-append}
use Rattle.std.proofs.Math.Seq.{take-append_seam}
use Rattle.std.proofs.Math.Option.{Option, none, some}
use Rattle.octets.specs.Octets.{Bytes}
use Rattle.octets.specs.Answer.{accepted}
use Rattle.octets.specs.Field.{end_field}
use Rattle.galley_file.specs.declared.form.Form.{Form}
use Rattle.galley_file.specs.declared.form.Form.TheVariants.{Old, New}
use Rattle.galley_file.specs.declared.item.Item.{Item}
use Rattle.galley_file.specs.Form.{greatest_height}
use Rattle.galley_file.specs.Item.{valid_item, item_field, item_size, next_item, item_at, WholeAt, characters_of}
use Rattle.galley_file.specs.ItemLaws.{length_item_field, size_least, drop_item_field, next_none, next_field, next_is}
use Rattle.galley_file.specs.Galley.{max_items, AllValid, nil, more, fields, leading, read_galley, items_of}
use Rattle.galley_file.specs.GalleyLaws.{read_as, fields_append, fields_one}
use Rattle.galley_file.specs.ReadingLaws.{reading_length, reading_valid, decoded}
use Rattle.galley_file.specs.Outcome.{check_outcome}
use Rattle.galley_file.specs.Fields.{field_items, WholeFields, GalleyFields}

no_next : (form : Form) → next_item form [] ≡ none
no_next Old = next_none Old [] (λ e. omega (arith, e)) (λ e. omega (arith, e))
no_next New = next_none New [] (λ e. omega (arith, e)) (λ e. omega (arith, e))

leading_none : (form : Form) (m : ℕ) → leading form m [] ≡ []
unfolding leading
leading_none form zero = refl
leading_none form (suc m) = rw (no_next form, leading)

leading_valid : (form : Form) (m : ℕ) (s : List ℕ) → AllValid (greatest_height form) (leading form m s)
unfolding leading
leading_valid form zero s = nil
leading_valid form (suc m) s = go (next_item form s) refl (λ k. leading_valid form m (drop k s))
  where
    go : (o : Option Item) → next_item form s ≡ o → ((k : ℕ) → AllValid (greatest_height form) (leading form m (drop k s)))
        → AllValid (greatest_height form) (elim o [
          | none ↦ []
          | some i ↦ i ∷ leading form m (drop (item_size form i) s)
        ])
    go none e later = nil
    go (some i) e later = more (next_is form s i e).is_valid (later (item_size form i))

pub field_items_valid : (form : Form) (s : List ℕ) → AllValid (greatest_height form) (field_items form s)
unfolding field_items
field_items_valid form s = leading_valid form (length s) s

leading_fields : (form : Form) (is : List Item) → AllValid (greatest_height form) is → (m : ℕ) → length (fields form is) ≤ m → leading form m (fields form is) ≡ is
unfolding leading fields
leading_fields form [] nil m h = leading_none form m
leading_fields form (i ∷ is) (more v vs) m h =
    go m (omega (arith, h, length-append (item_field form i) (fields form is), length_item_field form i, size_least form i)) h (λ k. leading_fields form is vs k)
  where
    go : (m : ℕ) → 3 ≤ m → length (item_field form i ++ fields form is) ≤ m → ((k : ℕ) → length (fields form is) ≤ k → leading form k (fields form is) ≡ is)
        → leading form m (item_field form i ++ fields form is) ≡ i ∷ is
    go zero k l later = absurd (omega arith)
    go (suc m) k l later =
        let rest : length (fields form is) ≤ m = omega (arith, l, length-append (item_field form i) (fields form is), length_item_field form i, size_least form i) in
        rw (next_field form i v (fields form is), drop_item_field form i (fields form is), leading) (ap (λ (js : List Item). i ∷ js) (later m rest))

pub items_fields : (form : Form) (is : List Item) → AllValid (greatest_height form) is → field_items form (fields form is) ≡ is
unfolding field_items
items_fields form is v = leading_fields form is v (length (fields form is)) (omega arith)

pub fields_whole : (form : Form) (s : List ℕ) (is : List Item) → AllValid (greatest_height form) is → s ≡ fields form is → (field_items form s ≡ is) × WholeFields form s
fields_whole form s is v e =
    let q : field_items form s ≡ is = ap (field_items form) e ∙ items_fields form is v in
    (q, e ∙ ap (fields form) (sym q))

-- the fields of one item more
module _ (form : Form) (done : List Item) (i : Item) where
  pub fields_more : fields form (done ++ (i ∷ [])) ≡ fields form done ++ item_field form i
  fields_more = fields_append form done (i ∷ []) ∙ ap (λ (l : List ℕ). fields form done ++ l) (fields_one form i)

  pub length_more : length (fields form (done ++ (i ∷ []))) ≡ length (fields form done) + item_size form i
  length_more = omega (arith, ap length fields_more, length-append (fields form done) (item_field form i), length_item_field form i)

  pub fields_room : (all rest : List Item) → all ≡ done ++ (i ∷ rest) → length (fields form done) + item_size form i ≤ length (fields form all)
  fields_room all rest e =
      let a = e ∙ sym (append_assoc done (i ∷ []) rest) in
      omega (arith, length_more, ap (λ (l : List Item). length (fields form l)) a, ap length (fields_append form (done ++ (i ∷ [])) rest), length-append (fields form (done ++ (i ∷ []))) (fields form rest))

-- each of a list of valid items is valid
pub valid_turn : (top : ℤ) (done rest : List Item) (i : Item) → AllValid top (done ++ (i ∷ rest)) → valid_item top i ≡ true
valid_turn top [] rest i (more v vs) = v
valid_turn top (j ∷ done) rest i (more v vs) = valid_turn top done rest i vs

-- the item i comes first
pub record NextField (form : Form) (s : List ℕ) (i : Item) : Type 0 where
  pub here : WholeAt form s 0
  pub room : item_size form i ≤ length s
  pub is_valid : valid_item (greatest_height form) i ≡ true
  pub items : field_items form s ≡ i ∷ field_items form (drop (item_size form i) s)
  pub whole : WholeFields form (drop (item_size form i) s)

pub next_field_is : (form : Form) (s : List ℕ) → WholeFields form s → 0 < length s → NextField form s (item_at form s 0)
unfolding fields
next_field_is form s w h = go (field_items form s) refl (field_items_valid form s) w
  where
    go : (is : List Item) → field_items form s ≡ is → AllValid (greatest_height form) is → s ≡ fields form is → NextField form s (item_at form s 0)
    go [] q nil e = absurd (omega (arith, h, ap length e))
    go (i ∷ is) q (more v vs) e =
        let n : next_item form s ≡ some i = ap (next_item form) e ∙ next_field form i v (fields form is) in
        let x = next_is form s i n in
        let d : drop (item_size form i) s ≡ fields form is = ap (drop (item_size form i)) e ∙ drop_item_field form i (fields form is) in
        let r = fields_whole form (drop (item_size form i) s) is vs d in
        subst (NextField form s) (sym x.here)
        (record {
          here = record { inside = rw x.here (omega (arith, x.long)); is_valid = rw x.here v };
          room = x.long;
          is_valid = v;
          items = q ∙ ap (λ (js : List Item). i ∷ js) (sym r.0);
          whole = r.1;
        })

pub fields_ended : (form : Form) (s : List ℕ) → length s ≡ 0 → field_items form s ≡ []
unfolding field_items leading
fields_ended form s e = ap (λ (n : ℕ). leading form n s) e

-- a galley that the check accepts
module _ (form : Form) (g : List ℕ) (count : ℕ) (e : accepted count ≡ check_outcome form g) where
  pub galley_long : length g ≡ length (fields form (items_of form g)) + 7
  unfolding read_galley
  galley_long = reading_length form (items_of form g) max_items g 0 0 (read_as form g count e)

  pub galley_fields : Bytes g → GalleyFields form g
  unfolding read_galley
  galley_fields b =
      let is = items_of form g in
      let d = decoded form is max_items g 0 0 b (read_as form g count e) in
      let n : length g - 7 ≡ length (fields form is) = omega (arith, galley_long) in
      rw n (ap (take (length (fields form is))) d ∙ take-append_seam (fields form is) (end_field (0 + length (characters_of is))))

  pub galley_valid : AllValid (greatest_height form) (items_of form g)
  unfolding read_galley
  galley_valid = reading_valid form (items_of form g) max_items g 0 0 (read_as form g count e)

  pub galley_run : GalleyFields form g → (field_items form (take (length g - 7) g) ≡ items_of form g) × WholeFields form (take (length g - 7) g)
  galley_run f = fields_whole form (take (length g - 7) g) (items_of form g) galley_valid f
