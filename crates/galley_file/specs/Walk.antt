-- Walking through a galley, field by field: what a loop over its items knows.
--     Walk           the items `done` lie behind, the next field starts at `at`, and the run from there on holds `rest`
--     Midway         the same of a galley that is read as `is`
--     midway_start   at the first field
--     midway_next    past the next item
--     midway_end     at End
--     midway_turn    in a turn of a `for` over the items: this turn's item stands behind the fields of those gone by
-- Assumes nothing.
use Rattle.std.specs.Prelude.{◌≡◌, refl, true, List, [], ◌∷◌, ◌++◌, ℕ, ◌+◌, ◌≤◌, ◌<◌, length, drop}
use Rattle.std.proofs.Common.{sym, ap, subst, ◌∙◌, append_assoc, append-nil, arith, length-append, length-drop, drop-drop}
use Rattle.galley_file.specs.declared.item.Item.{Item}
use Rattle.galley_file.specs.declared.form.Form.{Form}
use Rattle.galley_file.specs.Form.{greatest_height}
use Rattle.galley_file.specs.Item.{valid_item, item_size, item_at, WholeAt, tally}
use Rattle.galley_file.specs.ItemLaws.{length_item_field, size_least, next_is, next_item_at}
use Rattle.galley_file.specs.Galley.{max_items, fields, whole, reading, read_galley}
use Rattle.galley_file.specs.GalleyLaws.{fields_append, fields_one}
use Rattle.galley_file.specs.ReadingLaws.{first, last, reading_length}

pub record Walk (form : Form) (g : List ℕ) (done rest : List Item) (at : ℕ) : Type 0 where
  pub at_is : at ≡ length (fields form done)
  pub inside : at ≤ length g
  pub left : ℕ
  pub before : ℕ
  pub holds : reading form left (drop at g) at before ≡ whole rest

-- at the end there is just End
walk_ended : (form : Form) (g : List ℕ) (done : List Item) (at : ℕ) → Walk form g done [] at → at + 7 ≡ length g
walk_ended form g done at w = let l = (last form w.left (drop at g) at w.before w.holds).long in omega (arith, length-drop at g, w.inside)

pub record Stepped (form : Form) (g : List ℕ) (done : List Item) (i : Item) (rest : List Item) (at : ℕ) : Type 0 where
  pub here : item_at form g at ≡ i
  pub is_valid : valid_item (greatest_height form) i ≡ true
  pub room : at + item_size form i + 7 ≤ length g
  pub walk : Walk form g (done ++ (i ∷ [])) rest (at + item_size form i)

pub walk_step : (form : Form) (g : List ℕ) (done : List Item) (i : Item) (rest : List Item) (at : ℕ) → Walk form g done (i ∷ rest) at → Stepped form g done i rest at
walk_step form g done i rest at w =
    let f = first form w.left (drop at g) at w.before i rest w.holds in
    let n = next_is form (drop at g) i f.next in
    let l = reading_length form rest f.left (drop (item_size form i) (drop at g)) (at + item_size form i) (w.before + tally i) f.rest in
    let d = drop-drop (item_size form i) at g in
    let room : at + item_size form i + 7 ≤ length g = omega (arith, l, n.long, length-drop at g, length-drop (item_size form i) (drop at g), w.inside) in
    record {
      here = next_item_at form g at i f.next;
      is_valid = n.is_valid;
      room = room;
      walk = record {
        at_is = omega (arith, w.at_is, ap length (fields_append form done (i ∷ [])), length-append (fields form done) (fields form (i ∷ [])), ap length (fields_one form i), length_item_field form i);
        inside = omega (arith, room);
        left = f.left;
        before = w.before + tally i;
        holds = ap (λ (t : List ℕ). reading form f.left t (at + item_size form i) (w.before + tally i)) (sym d) ∙ f.rest;
      };
    }

pub walk_start : (form : Form) (g : List ℕ) (is : List Item) → read_galley form g ≡ whole is → Walk form g [] is 0
unfolding read_galley fields
walk_start form g is e = record { at_is = refl; inside = omega arith; left = max_items; before = 0; holds = e }

pub record Midway (form : Form) (g : List ℕ) (is done : List Item) (at : ℕ) : Type 0 where
  pub rest : List Item
  pub all : is ≡ done ++ rest
  pub walk : Walk form g done rest at

pub midway_start : (form : Form) (g : List ℕ) (is : List Item) → read_galley form g ≡ whole is → Midway form g is [] 0
midway_start form g is e = record { rest = is; all = refl; walk = walk_start form g is e }

-- the next item is i
pub record Onward (form : Form) (g : List ℕ) (is done : List Item) (at : ℕ) (i : Item) : Type 0 where
  pub is_valid : valid_item (greatest_height form) i ≡ true
  pub room : at + item_size form i + 7 ≤ length g
  pub next : Midway form g is (done ++ (i ∷ [])) (at + item_size form i)

module _ (form : Form) (g : List ℕ) (is done : List Item) (at : ℕ) (m : Midway form g is done at) where
  pub midway_inside : at ≤ length g
  midway_inside = m.walk.inside

  pub midway_at : at ≡ length (fields form done)
  midway_at = m.walk.at_is

  pub midway_end : length g ≤ at + 7 → is ≡ done
  midway_end h = go m.rest m.all m.walk
    where
      go : (r : List Item) → is ≡ done ++ r → Walk form g done r at → is ≡ done
      go [] e w = e ∙ append-nil done
      go (i ∷ r) e w = absurd (omega (arith, h, (walk_step form g done i r at w).room, size_least form i))

  -- the item there, where End does not come next
  pub midway_next : at + 7 < length g → Onward form g is done at (item_at form g at)
  midway_next h = go m.rest m.all m.walk
    where
      go : (r : List Item) → is ≡ done ++ r → Walk form g done r at → Onward form g is done at (item_at form g at)
      go [] e w = absurd (omega (arith, walk_ended form g done at w))
      go (i ∷ r) e w =
          let s = walk_step form g done i r at w in
          subst (Onward form g is done at) (sym s.here)
          (record {
            is_valid = s.is_valid;
            room = s.room;
            next = record { rest = r; all = e ∙ sym (append_assoc done (i ∷ []) r); walk = s.walk };
          })

  -- what reading it asks
  pub midway_whole : at + 7 < length g → WholeAt form g at
  midway_whole h = let n = midway_next h in record { inside = omega (arith, n.room); is_valid = n.is_valid }

-- past the items gone by
walk_past : (form : Form) (g : List ℕ) (more gone rest : List Item) (at : ℕ) → Walk form g gone (more ++ rest) at → Walk form g (gone ++ more) rest (length (fields form (gone ++ more)))
walk_past form g [] gone rest at w =
    subst (λ (is : List Item). Walk form g is rest (length (fields form is))) (sym (append-nil gone)) (subst (λ (n : ℕ). Walk form g gone rest n) w.at_is w)
walk_past form g (i ∷ more) gone rest at w =
    subst (λ (is : List Item). Walk form g is rest (length (fields form is))) (append_assoc gone (i ∷ []) more) (walk_past form g more (gone ++ (i ∷ [])) rest (at + item_size form i) (walk_step form g gone i (more ++ rest) at w).walk)

pub midway_turn : (form : Form) (g : List ℕ) (is : List Item) → read_galley form g ≡ whole is → (done : List Item) (i : Item) (rest : List Item) → is ≡ done ++ (i ∷ rest) → Onward form g is done (length (fields form done)) i
midway_turn form g is e done i rest a =
    let w = walk_past form g done [] (i ∷ rest) 0 (subst (λ (js : List Item). Walk form g [] js 0) a (walk_start form g is e)) in
    let s = walk_step form g done i rest (length (fields form done)) w in
    record {
      is_valid = s.is_valid;
      room = s.room;
      next = record { rest = rest; all = a ∙ sym (append_assoc done (i ∷ []) rest); walk = s.walk };
    }
