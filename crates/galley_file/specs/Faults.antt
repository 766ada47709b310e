-- What a refusal 41 says of the galley, in the format's own terms: the bytes are the fields of some valid items and then a rest. The
-- rest starts with no item, or the items are 1,048,576 already. Either the rest starts with no End that counts the characters, and
-- the place is where the rest starts; or it does and goes on, and the place is the first byte after End.
-- Assumes nothing.
use Rattle.std.specs.Prelude.{◌≡◌, refl, ◌⊎◌, Bool, true, false, cond, List, [], ◌∷◌, ◌++◌, ℕ, zero, suc, ◌+◌, ◌<◌, ◌≤◌, ltb, eqb, length, drop}
use Rattle.std.proofs.Common.{sym, ap, ◌∙◌, inl, inr, append_assoc, suc-ne-zero, arith, length-drop, length-append}
use Rattle.std.proofs.Math.Option.{Option, none, some}
use Rattle.std.proofs.lemmas.Bool.{eqb-false}
use Rattle.octets.specs.Octets.{Bytes}
use Rattle.octets.specs.OctetsLaws.{bytes_drop}
use Rattle.octets.specs.Field.{end_field, starts_end}
use Rattle.octets.specs.FieldLaws.{end_starts, starts_end_lem}
use Rattle.octets.specs.Answer.{refused, galley_too_long, galley_malformed}
use Rattle.galley_file.specs.declared.item.Item.{Item}
use Rattle.galley_file.specs.declared.form.Form.{Form}
use Rattle.galley_file.specs.Form.{greatest_height, max_galley}
use Rattle.galley_file.specs.Item.{valid_item, item_field, item_size, next_item, tally, characters_of}
use Rattle.galley_file.specs.ItemLaws.{length_item_field, next_field, next_is, field_next, tally_few, count_item}
use Rattle.galley_file.specs.Galley.{max_items, AllValid, nil, more, fields, Reading, whole, malformed, item_first, read_end, reading, read_galley}
use Rattle.galley_file.specs.ReadingLaws.{reading_next, reading_end}
use Rattle.galley_file.specs.Outcome.{count_outcome, check_outcome}

-- s starts with no field of a valid item
pub NoItem : (form : Form) → List ℕ → Type 0
NoItem form s = (i : Item) (rest : List ℕ) → valid_item (greatest_height form) i ≡ true → s ≡ item_field form i ++ rest → ⊥

-- s starts with no End that counts n characters
pub NoEnd : List ℕ → ℕ → Type 0
NoEnd s n = (rest : List ℕ) → s ≡ end_field n ++ rest → ⊥

-- where the fault p is: the rest starts at `at` and follows n characters
abbrev pub At : List ℕ → ℕ → ℕ → ℕ → Type 0
At rest at n p = (NoEnd rest n × (p ≡ at)) ⊎ ((b : ℕ) × (l : List ℕ) × (rest ≡ end_field n ++ b ∷ l) × (p ≡ at + 7))

-- The run s starts at `at` after n characters and may have k items, and its first fault is at p
pub record Fault (form : Form) (k : ℕ) (s : List ℕ) (at n p : ℕ) : Type 0 where
  pub items : List Item
  pub valid : AllValid (greatest_height form) items
  pub rest : List ℕ
  pub bytes : s ≡ fields form items ++ rest
  pub next : NoItem form rest ⊎ (length items ≡ k)
  pub few : length items ≤ k
  pub place : At rest (at + length (fields form items)) (n + length (characters_of items)) p

no_item : (form : Form) (s : List ℕ) → next_item form s ≡ none → NoItem form s
unfolding NoItem
no_item form s e i rest v q =
    let h : none ≡ some i = sym e ∙ ap (next_item form) q ∙ next_field form i v rest in
    let z : ◌≡◌ {A = ℕ} 0 1 = cc in
    omega arith

no_end : (s : List ℕ) (n : ℕ) → n < 4294967296 → starts_end n s ≡ false → NoEnd s n
unfolding NoEnd
no_end s n l e rest q =
    let h : false ≡ true = sym e ∙ ap (λ (t : List ℕ). starts_end n t) q ∙ end_starts n rest l in
    let z : ◌≡◌ {A = ℕ} 0 1 = cc in
    omega arith

longer : (s : List ℕ) → 7 ≤ length s → (length s ≡ 7 → ⊥) → (b : ℕ) × (l : List ℕ) × (drop 7 s ≡ b ∷ l)
longer s h k = go (drop 7 s) refl
  where
    go : (t : List ℕ) → drop 7 s ≡ t → (b : ℕ) × (l : List ℕ) × (drop 7 s ≡ b ∷ l)
    go [] e = let d = length-drop 7 s in let z : length (drop 7 s) ≡ 0 = ap length e in absurd (k (omega arith))
    go (b ∷ l) e = (b, l, e)

-- the fault of a run in which no item is taken
place_here : (s : List ℕ) (at n p : ℕ) → Bytes s → n < 4294967296 → read_end s at n ≡ malformed p → At s at n p
unfolding read_end
place_here s at n p b l e = go (starts_end n s) refl (eqb (length s) 7) refl e
  where
    go : (t : Bool) → starts_end n s ≡ t → (u : Bool) → eqb (length s) 7 ≡ u → cond t (cond u (whole []) (malformed (at + 7))) (malformed at) ≡ malformed p → At s at n p
    go true q true r h = absurd (suc-ne-zero 0 cc)
    go true q false r h =
        let w = starts_end_lem n s b q in
        let t = longer s w.0 (eqb-false _ _ r) in
        let y : at + 7 ≡ p = cc in
        inr (t.0, t.1, w.1 ∙ ap (λ (m : List ℕ). end_field n ++ m) t.2, sym y)
    go false q u r h = let y : at ≡ p = cc in inl (no_end s n l q, sym y)

here : (form : Form) (k : ℕ) (s : List ℕ) (at n p : ℕ) → Bytes s → n < 4294967296 → NoItem form s ⊎ (0 ≡ k) → read_end s at n ≡ malformed p → Fault form k s at n p
unfolding fields characters_of
here form k s at n p b l f e =
    let y : at + 0 ≡ at = omega arith in
    let z : n + 0 ≡ n = omega arith in
    record { items = []; valid = nil; rest = s; bytes = refl; next = f; few = omega arith; place = rw (y, z) (place_here s at n p b l e) }

later : (i : Item) (r : Reading) (p : ℕ) → item_first i r ≡ malformed p → r ≡ malformed p
later i (whole is) p e = absurd (suc-ne-zero 0 cc)
later i (malformed q) p e = e

one_more : (form : Form) (rest : List ℕ) {m k : ℕ} → NoItem form rest ⊎ (m ≡ k) → NoItem form rest ⊎ (suc m ≡ suc k)
one_more form rest (inl h) = inl h
one_more form rest (inr h) = inr (ap suc h)

-- a fault after an item, said from that item on
earlier : (form : Form) (k : ℕ) (s : List ℕ) (at n p : ℕ) (i : Item) → Bytes s → next_item form s ≡ some i → Fault form k (drop (item_size form i) s) (at + item_size form i) (n + tally i) p → Fault form (suc k) s at n p
unfolding fields
earlier form k s at n p i b q r =
    let is = r.items in
    let f = r.few in
    let y : at + item_size form i + length (fields form is) ≡ at + length (fields form (i ∷ is)) = omega (arith, length-append (item_field form i) (fields form is), length_item_field form i) in
    let z : n + tally i + length (characters_of is) ≡ n + length (characters_of (i ∷ is)) = omega (arith, count_item i is) in
    record {
      items = i ∷ is;
      valid = more (next_is form s i q).is_valid r.valid;
      rest = r.rest;
      bytes = field_next form s i b q ∙ ap (λ (t : List ℕ). item_field form i ++ t) r.bytes ∙ sym (append_assoc (item_field form i) (fields form is) r.rest);
      next = one_more form r.rest r.next;
      few = omega arith;
      place = rw (← y, ← z) r.place;
    }

fault_steps : (form : Form) (k : ℕ) (s : List ℕ) (at n p : ℕ) → Bytes s → n + k < 4294967296 → reading form k s at n ≡ malformed p → Fault form k s at n p
unfolding reading
fault_steps form zero s at n p b l e = here form zero s at n p b (omega arith) (inr refl) e
fault_steps form (suc k) s at n p b l e = go (next_item form s) refl (λ i. fault_steps form k (drop (item_size form i) s) (at + item_size form i) (n + tally i) p (bytes_drop (item_size form i) s b))
  where
    go : (o : Option Item) → next_item form s ≡ o
        → ((i : Item) → n + tally i + k < 4294967296 → reading form k (drop (item_size form i) s) (at + item_size form i) (n + tally i) ≡ malformed p → Fault form k (drop (item_size form i) s) (at + item_size form i) (n + tally i) p)
        → Fault form (suc k) s at n p
    go none q rec = here form (suc k) s at n p b (omega arith) (inl (no_item form s q)) (sym (reading_end form (suc k) s at n q) ∙ e)
    go (some i) q rec =
        earlier form k s at n p i b q
        (rec i (omega (arith, tally_few i)) (later i (reading form k (drop (item_size form i) s) (at + item_size form i) (n + tally i)) p (sym (reading_next form k s at n i q) ∙ e)))

-- a refusal 41 is given for a galley within the limit, at its first fault
pub refused_is : (form : Form) (g : List ℕ) (p : ℕ) → Bytes g → check_outcome form g ≡ refused galley_malformed p → Fault form max_items g 0 0 p
unfolding check_outcome read_galley
refused_is form g p b e = go (ltb (max_galley form) (length g)) refl (read_galley form g) refl e
  where
    go : (t : Bool) → ltb (max_galley form) (length g) ≡ t → (r : Reading) → read_galley form g ≡ r → cond t (refused galley_too_long 0) (count_outcome 0 r) ≡ refused galley_malformed p → Fault form max_items g 0 0 p
    go true l r q h = let z : ◌≡◌ {A = ℕ} 40 41 = cc in absurd (omega arith)
    go false l (whole is) q h = absurd (suc-ne-zero 0 cc)
    go false l (malformed x) q h =
        let y : x ≡ p = cc in
        fault_steps form max_items g 0 0 p b (omega arith) (q ∙ ap malformed y)
