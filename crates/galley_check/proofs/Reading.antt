-- How a run of fields is checked, step by step: the laws that the code's proofs cite.
-- Assumes nothing.
use mathlib.Core.Path.{◌≡◌, refl, sym, ap, ◌∙◌}
use mathlib.Core.Bool.{true, false}
use mathlib.Core.List.{List, [], ◌∷◌}
use mathlib.Core.Option.{Option, none, some}
use Prim.Native.Nat.{ℕ, zero, suc, ◌+◌, ◌-◌, ◌*◌, ◌/◌, ◌%◌, ◌≤◌}
use native.Mathlib.Omega.{arith}
use borrow.Author.Tests.{eq-eqb, ne_eqb}
use lib.ListN.{length, take, drop, length-drop, length-append}
use lib.Seq.{take_all, drop-drop}
use Rattle.octets.specs.Answer.{Outcome, accepted, refused, galley_malformed}
use Rattle.octets.specs.Field.{starts_end}
use Rattle.galley_file.specs.declared.item.Item.{Item}
use Rattle.galley_file.specs.declared.item.Item.TheVariants.{Placed, Cut}
use Rattle.galley_check.specs.declared.Span.{Span}
use Rattle.galley_file.specs.declared.form.Form.{Form}
use Rattle.galley_file.specs.Form.{character_size}
use Rattle.galley_file.specs.Character.{character_at, is_character}
use Rattle.galley_file.specs.Item.{item_field, item_size, is_cut, next_item, tally, characters_of, cuts_of}
use Rattle.galley_file.specs.ItemLaws.{length_item_field, next_is, count_item, all_counted}
use Rattle.galley_file.specs.Galley.{Reading, whole, malformed, item_first, fields, read_end, reading, leading}
use Rattle.galley_check.specs.Span.{SpanOf, run_number}
use Rattle.galley_file.specs.GalleyLaws.{length_fields}
use Rattle.galley_file.specs.ReadingLaws.{reading_next, reading_end}
use Rattle.galley_file.specs.Outcome.{count_outcome}

-- an item more before a run, and its count
pub count_after : (n : ℕ) (i : Item) (r : Reading) → count_outcome n (item_first i r) ≡ count_outcome (n + tally i) r
count_after n i (whole is) = ap accepted (omega (arith, count_item i is))
count_after n i (malformed p) = refl

-- the part of a slice from k on
pub part : (k : ℕ) (s : List ℕ) → take (length s - k) (drop k s) ≡ drop k s
part k s = take_all (length s - k) (drop k s) (simp length-drop (omega arith))

-- ---- the answers of `check_end`

module _ (s : List ℕ) (at n : ℕ) where
  pub ended : starts_end n s ≡ true → length s ≡ 7 → accepted n ≡ count_outcome n (read_end s at n)
  unfolding read_end characters_of
  ended f l = rw (f, eq-eqb _ _ l) (ap accepted (omega arith))

  pub trailing : starts_end n s ≡ true → (length s ≡ 7 → ⊥) → refused galley_malformed (at + 7) ≡ count_outcome n (read_end s at n)
  unfolding read_end
  trailing f l = rw (f, ne_eqb _ _ l)

  pub faulty : starts_end n s ≡ false → refused galley_malformed at ≡ count_outcome n (read_end s at n)
  unfolding read_end
  faulty f = rw f

-- ---- the items at the start

pub next_character : (form : Form) (s : List ℕ) → is_character form s ≡ true → next_item form s ≡ some (Placed (character_at form s 0))
unfolding next_item
next_character form s e = rw e

pub next_cut : (form : Form) (s : List ℕ) → is_character form s ≡ false → is_cut s ≡ true → next_item form s ≡ some Cut
unfolding next_item
next_cut form s e f = rw (e, f)

pub next_no : (form : Form) (s : List ℕ) → is_character form s ≡ false → is_cut s ≡ false → next_item form s ≡ none
unfolding next_item
next_no form s e f = rw (e, f)

pub leading_none : (form : Form) (s : List ℕ) → leading form 0 s ≡ []
unfolding leading
leading_none form s = refl

pub leading_more : (form : Form) (m : ℕ) (s : List ℕ) (i : Item) → (m ≡ 0 → ⊥) → next_item form s ≡ some i → leading form m s ≡ i ∷ leading form (m - 1) (drop (item_size form i) s)
unfolding leading
leading_more form zero s i h e = absurd (h refl)
leading_more form (suc m) s i h e = let z : suc m - 1 ≡ m = omega arith in rw (e, leading, z)

pub leading_stop : (form : Form) (m : ℕ) (s : List ℕ) → next_item form s ≡ none → leading form m s ≡ []
unfolding leading
leading_stop form zero s e = refl
leading_stop form (suc m) s e = rw (e, leading)

-- a fact of `leading m s` from its three cases
module _ (form : Form) (P : ℕ → List ℕ → List Item → Type 0) (nothing : (s : List ℕ) → P 0 s []) (stop : (m : ℕ) (s : List ℕ) → next_item form s ≡ none → P (suc m) s [])
    (more : (m : ℕ) (is : List Item) (s : List ℕ) (i : Item) → next_item form s ≡ some i → P m (drop (item_size form i) s) is → P (suc m) s (i ∷ is)) where
  pub leading_ind : (m : ℕ) (s : List ℕ) → P m s (leading form m s)
  unfolding leading
  leading_ind zero s = nothing s
  leading_ind (suc m) s = go (next_item form s) refl (λ i. leading_ind m (drop (item_size form i) s))
    where
      go : (o : Option Item) → next_item form s ≡ o → ((i : Item) → P m (drop (item_size form i) s) (leading form m (drop (item_size form i) s)))
          → P (suc m) s (elim o [ none ↦ [] | some i ↦ i ∷ leading form m (drop (item_size form i) s) ])
      go none e r = stop m s e
      go (some i) e r = more m (leading form m (drop (item_size form i) s)) s i e (r i)

pub leading_room : (form : Form) (m : ℕ) (s : List ℕ) → length (leading form m s) ≤ m
leading_room form = leading_ind form (λ m s is. length is ≤ m) (λ s. omega arith) (λ m s e. omega arith) (λ m is s i e r. omega arith)

size_more : (form : Form) (i : Item) (is : List Item) → length (fields form (i ∷ is)) ≡ item_size form i + length (fields form is)
unfolding fields
size_more form i is = length-append (item_field form i) (fields form is) ∙ omega (arith, length_item_field form i)

pub leading_fits : (form : Form) (m : ℕ) (s : List ℕ) → length (fields form (leading form m s)) ≤ length s
unfolding fields
leading_fits form =
    leading_ind form (λ m s is. length (fields form is) ≤ length s) (λ s. omega arith) (λ m s e. omega arith)
    (λ m is s i e r. omega (arith, size_more form i is, (next_is form s i e).long, length-drop (item_size form i) s))

-- ---- what `leading_items` counts

-- an item more
number_more : (i : Item) (is : List Item) → run_number (i ∷ is) ≡ run_number is + (tally i + 2048 * (1 - tally i))
unfolding run_number characters_of cuts_of
number_more (Placed c) is = omega arith
number_more Cut is = omega arith

module _ (form : Form) (m : ℕ) (s : List ℕ) where
  nothing : leading form m s ≡ [] → 0 ≡ run_number (leading form m s)
  unfolding run_number characters_of cuts_of
  nothing e = rw e

  pub number_none : m ≡ 0 → 0 ≡ run_number (leading form m s)
  number_none e = nothing (ap (λ (k : ℕ). leading form k s) e ∙ leading_none form s)

  pub number_stop : is_character form s ≡ false → is_cut s ≡ false → 0 ≡ run_number (leading form m s)
  number_stop e f = nothing (leading_stop form m s (next_no form s e f))

  -- the part after the field of an item, which a number is of
  past : (i : Item) (r : ℕ) → (m ≡ 0 → ⊥) → next_item form s ≡ some i → r ≡ run_number (leading form (m - 1) (take (length s - item_size form i) (drop (item_size form i) s)))
      → r + (tally i + 2048 * (1 - tally i)) ≡ run_number (leading form m s)
  past i r h e q =
      let w : r ≡ run_number (leading form (m - 1) (drop (item_size form i) s)) = q ∙ ap (λ (l : List ℕ). run_number (leading form (m - 1) l)) (part (item_size form i) s) in
      omega (arith, w, number_more i (leading form (m - 1) (drop (item_size form i) s)), ap run_number (leading_more form m s i h e))

  pub number_character : (r : ℕ) → (m ≡ 0 → ⊥) → is_character form s ≡ true → r ≡ run_number (leading form (m - 1) (take (length s - character_size form) (drop (character_size form) s)))
      → r + 1 ≡ run_number (leading form m s)
  number_character r h e q = past (Placed (character_at form s 0)) r h (next_character form s e) q

  pub number_cut : (r : ℕ) → (m ≡ 0 → ⊥) → is_character form s ≡ false → is_cut s ≡ true → r ≡ run_number (leading form (m - 1) (take (length s - 3) (drop 3 s)))
      → r + 2048 ≡ run_number (leading form m s)
  number_cut r h e f q = past Cut r h (next_cut form s e f) q

  -- the items are no more than the room
  pub items_few : length (characters_of (leading form m s)) + cuts_of (leading form m s) ≤ m
  items_few = omega (arith, all_counted (leading form m s), leading_room form m s)

  -- and so the number is no more than cuts alone would make it
  pub number_most : (r : ℕ) → r ≡ run_number (leading form m s) → r ≤ 2048 * m
  unfolding run_number
  number_most r e = omega (arith, e, items_few)

  -- it is taken apart
  pub number_span : (r : ℕ) → m ≤ 1024 → r ≡ run_number (leading form m s) → SpanOf (record { characters = r % 2048; cuts = r / 2048 }) (leading form m s)
  unfolding run_number
  number_span r h e = record { characters_are = omega (arith, e, items_few); cuts_are = omega (arith, e, items_few) }

-- no more than the room
pub span_few : (form : Form) (m : ℕ) (s : List ℕ) (r : Span) → SpanOf r (leading form m s) → r.characters + r.cuts ≤ m
span_few form m s r e = omega (arith, items_few form m s, e.characters_are, e.cuts_are)

-- ---- past a run

-- where a run goes on or ends, after the items `is`
abbrev On : Form → (List ℕ → ℕ → ℕ → Reading) → List ℕ → List Item → ℕ → ℕ → Outcome
On form f s is at n = count_outcome (n + length (characters_of is)) (f (drop (length (fields form is)) s) (at + length (fields form is)) (n + length (characters_of is)))

on_none : (form : Form) (f : List ℕ → ℕ → ℕ → Reading) (s : List ℕ) (at n : ℕ) → On form f s [] at n ≡ count_outcome n (f s at n)
unfolding fields characters_of
on_none form f s at n = let y : at + 0 ≡ at = omega arith in let z : n + 0 ≡ n = omega arith in rw (y, z)

on_more : (form : Form) (f : List ℕ → ℕ → ℕ → Reading) (s : List ℕ) (i : Item) (is : List Item) (at n : ℕ) → On form f s (i ∷ is) at n ≡ On form f (drop (item_size form i) s) is (at + item_size form i) (n + tally i)
on_more form f s i is at n =
    let x : n + length (characters_of (i ∷ is)) ≡ n + tally i + length (characters_of is) = omega (arith, count_item i is) in
    let y : at + length (fields form (i ∷ is)) ≡ at + item_size form i + length (fields form is) = omega (arith, size_more form i is) in
    let z : drop (length (fields form (i ∷ is))) s ≡ drop (length (fields form is)) (drop (item_size form i) s) = ap (λ (k : ℕ). drop k s) (size_more form i is) ∙ sym (drop-drop (length (fields form is)) (item_size form i) s) in
    rw (x, y, z)

-- past a full run of m items, the rest decides
full : (form : Form) (m : ℕ) (s : List ℕ) (k at n : ℕ) → length (leading form m s) ≡ m → count_outcome n (reading form (m + k) s at n) ≡ On form (reading form k) s (leading form m s) at n
full form =
    leading_ind form (λ m s is. (k at n : ℕ) → length is ≡ m → count_outcome n (reading form (m + k) s at n) ≡ On form (reading form k) s is at n)
    (λ s k at n l. let z : 0 + k ≡ k = omega arith in rw z (sym (on_none form (reading form k) s at n)))
    (λ m s e k at n l. absurd (omega arith))
    (λ m is s i e r k at n l.
    let z : suc m + k ≡ suc (m + k) = omega arith in
    ap (λ (t : ℕ). count_outcome n (reading form t s at n)) z
    ∙ ap (count_outcome n) (reading_next form (m + k) s at n i e)
    ∙ count_after n i (reading form (m + k) (drop (item_size form i) s) (at + item_size form i) (n + tally i))
    ∙ r k (at + item_size form i) (n + tally i) (omega arith)
    ∙ sym (on_more form (reading form k) s i is at n))

-- past fewer, no item comes next
short : (form : Form) (m : ℕ) (s : List ℕ) (k at n : ℕ) → (length (leading form m s) ≡ m → ⊥) → count_outcome n (reading form (m + k) s at n) ≡ On form read_end s (leading form m s) at n
short form =
    leading_ind form (λ m s is. (k at n : ℕ) → (length is ≡ m → ⊥) → count_outcome n (reading form (m + k) s at n) ≡ On form read_end s is at n)
    (λ s k at n l. absurd (l refl))
    (λ m s e k at n l. ap (count_outcome n) (reading_end form (suc m + k) s at n e) ∙ sym (on_none form read_end s at n))
    (λ m is s i e r k at n l.
    let z : suc m + k ≡ suc (m + k) = omega arith in
    ap (λ (t : ℕ). count_outcome n (reading form t s at n)) z
    ∙ ap (count_outcome n) (reading_next form (m + k) s at n i e)
    ∙ count_after n i (reading form (m + k) (drop (item_size form i) s) (at + item_size form i) (n + tally i))
    ∙ r k (at + item_size form i) (n + tally i) (λ q. l (omega arith))
    ∙ sym (on_more form read_end s i is at n))

-- ---- the answers of `check_fields`, which has read a run of items

module _ (form : Form) (r : Span) (m : ℕ) (s : List ℕ) (e : SpanOf r (leading form m s)) where
  abbrev start : ℕ
  start = character_size form * r.characters + 3 * r.cuts

  run_start : start ≡ length (fields form (leading form m s))
  run_start = (λ i. character_size form * e.characters_are i + 3 * e.cuts_are i) ∙ sym (length_fields form (leading form m s))

  run_items : r.characters + r.cuts ≡ length (leading form m s)
  run_items = omega (arith, all_counted (leading form m s), e.characters_are, e.cuts_are)

  pub run_fits : start ≤ length s
  run_fits = omega (arith, run_start, leading_fits form m s)

  module _ (k at n to : ℕ) (q : start ≡ to) where
    there : (f : List ℕ → ℕ → ℕ → Reading)
        → count_outcome (n + r.characters) (f (take (length s - to) (drop to s)) (at + to) (n + r.characters)) ≡ On form f s (leading form m s) at n
    there f = rw (part to s, sym q ∙ run_start, e.characters_are)

    pub run_goes_on : r.characters + r.cuts ≡ m
        → count_outcome (n + r.characters) (reading form k (take (length s - to) (drop to s)) (at + to) (n + r.characters)) ≡ count_outcome n (reading form (m + k) s at n)
    run_goes_on h = there (reading form k) ∙ sym (full form m s k at n (sym run_items ∙ h))

    pub run_ends : (r.characters + r.cuts ≡ m → ⊥)
        → count_outcome (n + r.characters) (read_end (take (length s - to) (drop to s)) (at + to) (n + r.characters)) ≡ count_outcome n (reading form (m + k) s at n)
    run_ends h = there read_end ∙ sym (short form m s k at n (λ q. h (run_items ∙ q)))

-- ---- runs of 1,024

pub no_runs : (form : Form) (s : List ℕ) (at n runs : ℕ) → runs ≡ 0 → count_outcome n (read_end s at n) ≡ count_outcome n (reading form (1024 * runs) s at n)
unfolding reading
no_runs form s at n runs e = let z : 1024 * runs ≡ 0 = omega (arith, e) in rw z

-- one run, and those after it
pub one_run : (form : Form) (s : List ℕ) (at n runs : ℕ) → (runs ≡ 0 → ⊥) → count_outcome n (reading form (1024 + 1024 * (runs - 1)) s at n) ≡ count_outcome n (reading form (1024 * runs) s at n)
one_run form s at n runs h = let z : 1024 + 1024 * (runs - 1) ≡ 1024 * runs = omega (arith, h) in rw z
