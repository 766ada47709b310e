-- How a run of fields is read, field by field.
--     reading_next, reading_end     where an item comes next, and where none does
--     first, last                   what a run that is read as items starts with, and what one that is read as none is
--     accept, decoded               a run of the fields of items is read as those items, and is their fields
--     reading_few, reading_length   how many items a run has, and how many bytes
--     reading_valid                 the items of a run are valid
-- Assumes nothing.
use Rattle.std.specs.Prelude.{◌≡◌, refl, Bool, true, false, cond, List, [], ◌∷◌, ◌++◌, ℕ, zero, suc, ◌+◌, ◌<◌, ◌≤◌, eqb, length, drop}
use Rattle.std.proofs.Common.{sym, ap, ◌∙◌, append_assoc, append-nil, suc-ne-zero, arith, eqb-true, length-append, length-drop, drop_of_length-le}
use Rattle.std.proofs.Math.Option.{Option, none, some}
use Rattle.octets.specs.Octets.{Bytes, bytes}
use Rattle.octets.specs.OctetsLaws.{bytes_drop}
use Rattle.octets.specs.Field.{field, end_field, starts_end}
use Rattle.octets.specs.FieldLaws.{end_starts, starts_end_lem}
use Rattle.galley_file.specs.declared.item.Item.{Item}
use Rattle.galley_file.specs.declared.form.Form.{Form}
use Rattle.galley_file.specs.declared.form.Form.TheVariants.{Old, New}
use Rattle.galley_file.specs.Form.{greatest_height}
use Rattle.galley_file.specs.Item.{item_field, item_size, next_item, tally, characters_of}
use Rattle.galley_file.specs.ItemLaws.{length_item_field, drop_item_field, next_none, next_field, next_is, field_next, count_item}
use Rattle.galley_file.specs.Galley.{AllValid, nil, more, fields, Reading, whole, malformed, item_first, read_end, reading}

-- ---- how a run of fields is read, field by field

pub reading_next : (form : Form) (k : ℕ) (s : List ℕ) (at n : ℕ) (i : Item) → next_item form s ≡ some i
    → reading form (suc k) s at n ≡ item_first i (reading form k (drop (item_size form i) s) (at + item_size form i) (n + tally i))
unfolding reading
reading_next form k s at n i e = rw (e, reading)

pub reading_end : (form : Form) (k : ℕ) (s : List ℕ) (at n : ℕ) → next_item form s ≡ none → reading form k s at n ≡ read_end s at n
unfolding reading
reading_end form zero s at n e = refl
reading_end form (suc k) s at n e = rw (e, reading)

no_end : (s : List ℕ) (at n : ℕ) (i : Item) (is : List Item) → read_end s at n ≡ whole (i ∷ is) → ⊥
unfolding read_end
no_end s at n i is = go (starts_end n s) (eqb (length s) 7)
  where
    go : (t u : Bool) → cond t (cond u (whole []) (malformed (at + 7))) (malformed at) ≡ whole (i ∷ is) → ⊥
    go true true e = suc-ne-zero 0 cc
    go true false e = suc-ne-zero 0 cc
    go false u e = suc-ne-zero 0 cc

pub record First (form : Form) (k : ℕ) (s : List ℕ) (at n : ℕ) (i : Item) (is : List Item) : Type 0 where
  pub left : ℕ
  pub room : k ≡ suc left
  pub next : next_item form s ≡ some i
  pub rest : reading form left (drop (item_size form i) s) (at + item_size form i) (n + tally i) ≡ whole is

-- a run that holds an item starts with its field
pub first : (form : Form) (k : ℕ) (s : List ℕ) (at n : ℕ) (i : Item) (is : List Item) → reading form k s at n ≡ whole (i ∷ is) → First form k s at n i is
unfolding reading
first form zero s at n i is e = absurd (no_end s at n i is e)
first form (suc k) s at n i is e = go (next_item form s) refl
  where
    later : (j : Item) → next_item form s ≡ some j → (r : Reading) → reading form k (drop (item_size form j) s) (at + item_size form j) (n + tally j) ≡ r → First form (suc k) s at n i is
    later j q (whole js) w =
        let h : whole (j ∷ js) ≡ whole (i ∷ is) = sym (reading_next form k s at n j q ∙ ap (item_first j) w) ∙ e in
        let a : j ≡ i = cc in
        let b : js ≡ is = cc in
        record {
          left = k;
          room = refl;
          next = q ∙ ap some a;
          rest = ap (λ (x : Item). reading form k (drop (item_size form x) s) (at + item_size form x) (n + tally x)) (sym a) ∙ w ∙ ap whole b;
        }
    later j q (malformed p) w =
        let h : malformed p ≡ whole (i ∷ is) = sym (reading_next form k s at n j q ∙ ap (item_first j) w) ∙ e in
        let z : ◌≡◌ {A = ℕ} 0 1 = cc in
        absurd (omega arith)

    go : (o : Option Item) → next_item form s ≡ o → First form (suc k) s at n i is
    go none q = absurd (no_end s at n i is (sym (reading_end form (suc k) s at n q) ∙ e))
    go (some j) q = later j q (reading form k (drop (item_size form j) s) (at + item_size form j) (n + tally j)) refl

-- a run has no more items than it may
pub reading_few : (form : Form) (is : List Item) (k : ℕ) (s : List ℕ) (at n : ℕ) → reading form k s at n ≡ whole is → length is ≤ k
reading_few form [] k s at n e = omega arith
reading_few form (i ∷ is) k s at n e =
    let f = first form k s at n i is e in
    omega (arith, f.room, reading_few form is f.left (drop (item_size form i) s) (at + item_size form i) (n + tally i) f.rest)

pub reading_valid : (form : Form) (is : List Item) (k : ℕ) (s : List ℕ) (at n : ℕ) → reading form k s at n ≡ whole is → AllValid (greatest_height form) is
reading_valid form [] k s at n e = nil
reading_valid form (i ∷ is) k s at n e =
    let f = first form k s at n i is e in
    more (next_is form s i f.next).is_valid (reading_valid form is f.left (drop (item_size form i) s) (at + item_size form i) (n + tally i) f.rest)

-- ---- runs of fields

end_written : (s : List ℕ) (n : ℕ) → Bytes s → length s ≡ 7 → starts_end n s ≡ true → s ≡ end_field n
end_written s n b l e =
    (starts_end_lem n s b e).1
    ∙ ap (λ (m : List ℕ). end_field n ++ m) (drop_of_length-le s {i = 7} (omega arith)) ∙ append-nil (end_field n)

end_none : (form : Form) (n : ℕ) → next_item form (end_field n) ≡ none
unfolding end_field field
end_none Old n = next_none Old (end_field n) (λ e. omega arith) (λ e. omega arith)
end_none New n = next_none New (end_field n) (λ e. omega arith) (λ e. omega arith)

end_alone : (form : Form) (k n at : ℕ) → n < 4294967296 → reading form k (end_field n) at n ≡ whole []
unfolding end_field field bytes read_end
end_alone form k n at h =
    let e : starts_end n (end_field n) ≡ true = ap (starts_end n) (sym (append-nil (end_field n))) ∙ end_starts n [] h in
    reading_end form k (end_field n) at n (end_none form n) ∙ rw e

-- a run of fields and its End are read as their items
pub accept : (form : Form) (is : List Item) (k at n m : ℕ) → AllValid (greatest_height form) is → length is ≤ k → m ≡ n + length (characters_of is) → m < 4294967296
    → reading form k (fields form is ++ end_field m) at n ≡ whole is
unfolding fields characters_of
accept form [] k at n m nil l e h = let z : m ≡ n = omega arith in rw z (end_alone form k n at (omega arith))
accept form (i ∷ is) zero at n m v l e h = absurd (omega arith)
accept form (i ∷ is) (suc k) at n m (more v vs) l e h =
    let rest = fields form is ++ end_field m in
    rw (append_assoc (item_field form i) (fields form is) (end_field m))
    (reading_next form k (item_field form i ++ rest) at n i (next_field form i v rest)
    ∙ ap (λ (t : List ℕ). item_first i (reading form k t (at + item_size form i) (n + tally i))) (drop_item_field form i rest)
    ∙ ap (item_first i) (accept form is k (at + item_size form i) (n + tally i) m vs (omega arith) (omega (arith, count_item i is, e)) h))

no_more : (i : Item) (r : Reading) → item_first i r ≡ whole [] → ⊥
no_more i (whole is) e = suc-ne-zero 0 cc
no_more i (malformed p) e = suc-ne-zero 0 cc

-- a run without items is an End
pub record Ended (s : List ℕ) (n : ℕ) : Type 0 where
  pub starts : starts_end n s ≡ true
  pub long : length s ≡ 7

at_end_lem : (s : List ℕ) (at n : ℕ) → read_end s at n ≡ whole [] → Ended s n
unfolding read_end
at_end_lem s at n e = go (starts_end n s) refl (eqb (length s) 7) refl e
  where
    go : (t : Bool) → starts_end n s ≡ t → (u : Bool) → eqb (length s) 7 ≡ u → cond t (cond u (whole []) (malformed (at + 7))) (malformed at) ≡ whole [] → Ended s n
    go true p true q h = record { starts = p; long = eqb-true _ _ q }
    go true p false q h = absurd (suc-ne-zero 0 cc)
    go false p u q h = absurd (suc-ne-zero 0 cc)

pub last : (form : Form) (k : ℕ) (s : List ℕ) (at n : ℕ) → reading form k s at n ≡ whole [] → Ended s n
unfolding reading
last form zero s at n e = at_end_lem s at n e
last form (suc k) s at n e = go (next_item form s) refl
  where
    go : (o : Option Item) → next_item form s ≡ o → Ended s n
    go none q = at_end_lem s at n (sym (reading_end form (suc k) s at n q) ∙ e)
    go (some j) q = absurd (no_more j (reading form k (drop (item_size form j) s) (at + item_size form j) (n + tally j)) (sym (reading_next form k s at n j q) ∙ e))

-- bytes that are read as items are their fields and their End
pub decoded : (form : Form) (is : List Item) (k : ℕ) (s : List ℕ) (at n : ℕ) → Bytes s → reading form k s at n ≡ whole is → s ≡ fields form is ++ end_field (n + length (characters_of is))
unfolding fields characters_of
decoded form [] k s at n b e =
    let z : n + 0 ≡ n = omega arith in
    let f = last form k s at n e in
    rw z (end_written s n b f.long f.starts)
decoded form (i ∷ is) k s at n b e =
    let f = first form k s at n i is e in
    let r = decoded form is f.left (drop (item_size form i) s) (at + item_size form i) (n + tally i) (bytes_drop (item_size form i) s b) f.rest in
    let z : n + tally i + length (characters_of is) ≡ n + length (characters_of (i ∷ is)) = omega (arith, count_item i is) in
    field_next form s i b f.next
    ∙ ap (λ (l : List ℕ). item_field form i ++ l) (r ∙ ap (λ (t : ℕ). fields form is ++ end_field t) z)
    ∙ sym (append_assoc (item_field form i) (fields form is) (end_field (n + length (characters_of (i ∷ is)))))

-- a run is as long as its items' fields and End
pub reading_length : (form : Form) (is : List Item) (k : ℕ) (s : List ℕ) (at n : ℕ) → reading form k s at n ≡ whole is → length s ≡ length (fields form is) + 7
unfolding fields
reading_length form [] k s at n e = (last form k s at n e).long
reading_length form (i ∷ is) k s at n e =
    let f = first form k s at n i is e in
    omega (
      arith,
      reading_length form is f.left (drop (item_size form i) s) (at + item_size form i) (n + tally i) f.rest,
      length-drop (item_size form i) s,
      (next_is form s i f.next).long,
      length-append (item_field form i) (fields form is),
      length_item_field form i,
    )
