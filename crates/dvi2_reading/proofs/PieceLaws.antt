-- Lists of items that the writer takes, numbers, and changes of font.
--     writable_more                  one item more
--     pages_open, file_open          all pages and the file, by what stands through the items
--     thrice, height_valid           a place down is three times a valid height
--     x_between, x_mag               a valid place across is on the page
--     change_new, change_used        the commands that change the font, new or used before
--     used_small                     a font of a valid list is one of the 120
--     more_bytes                     one piece more
-- Assumes nothing.
use Rattle.std.specs.Prelude.{◌≡◌, refl, Bool, true, false, cond, ◌||◌, List, [], ◌∷◌, ◌++◌, ℕ, ◌/◌, ◌%◌, ◌<◌, leb, eqb, ℤ, pos, negsuc, ◌+ℤ◌, ◌-ℤ◌, ◌*ℤ◌, length, ◌≤ℤ◌}
use Rattle.std.proofs.Common.{sym, ap, subst, ◌∙◌, append_assoc, suc-ne-zero, arith, leb-true, eqb-true, eq-eqb, le-leb, length-append}
use Rattle.std.proofs.Math.Option.{Option, none, some}
use Rattle.std.specs.Int.Signed.{mag, le_z}
use Rattle.integers.specs.Parts.{integers, sum_parts, dif_parts}
use Rattle.integers.specs.Equality.{eq_z, true_eq_z}
use Rattle.octets.specs.FieldLaws.{both}
use Rattle.measure.specs.Place.{height_end, within}
use Rattle.octets.proofs.TransducerLaws.{transduced_more}
use Rattle.galley_file.specs.declared.character.Character.{Character}
use Rattle.galley_file.specs.declared.item.Item.{Item}
use Rattle.galley_file.specs.declared.item.Item.TheVariants.{Placed, Cut}
use Rattle.galley_file.specs.Character.{valid_x}
use Rattle.galley_file.specs.CharacterLaws.{valid_parts}
use Rattle.galley_file.specs.Item.{valid_item, characters_of}
use Rattle.galley_file.specs.Galley.{max_items, AllValid, nil, more}
use Rattle.extents.specs.FontMarks.{uses}
use Rattle.dvi2.specs.Command.{EOP}
use Rattle.dvi2.specs.Writer.{selects, definition, font_commands, font_change, shortest, move, preamble_bytes, bop_bytes, first_writing, item_bytes, items_bytes, pages_bytes, postamble_bytes, command_bytes, bytes223, fillers, dvi2_file, writing_after}
use Rattle.dvi2.specs.WriterLaws.{writing_behind}
use Rattle.dvi2_reading.specs.Beginning.{Writable}
use Rattle.dvi2_reading.specs.PageReading.{is_font, is_downward, lowest}
use Rattle.dvi2_reading.specs.Reading.{height_of, first_bop}
use Rattle.dvi2_reading.proofs.BytesLaws.{both_true, either}
use Rattle.dvi2_reading.specs.Reached.{writing_of, open_bytes}

-- ---- lists of items

pub all_append : {top : ℤ} {is js : List Item} → AllValid top is → AllValid top js → AllValid top (is ++ js)
all_append nil w = w
all_append (more v vs) w = more v (all_append vs w)

-- one item more
pub writable_more : (is : List Item) (i : Item) → Writable is → valid_item height_end i ≡ true → length is < max_items → Writable (is ++ (i ∷ []))
writable_more is i w v l =
    let n = length-append is (i ∷ []) in
    record { all_valid = all_append w.all_valid (more v nil); few = omega arith }

pub behind_is : (is : List Item) → (writing_of is).behind ≡ characters_of is
unfolding first_writing
behind_is is = writing_behind first_writing is

pub open_more : (is : List Item) (i : Item) → open_bytes (is ++ (i ∷ [])) ≡ open_bytes is ++ item_bytes (writing_of is) i
unfolding open_bytes
open_more is i =
    ap (λ (l : List ℕ). preamble_bytes ++ (first_bop ++ l)) (transduced_more item_bytes writing_after first_writing is i)
    ∙ ap (λ (l : List ℕ). preamble_bytes ++ l) (sym (append_assoc first_bop (items_bytes first_writing is) (item_bytes (writing_of is) i)))
    ∙ sym (append_assoc preamble_bytes (first_bop ++ items_bytes first_writing is) (item_bytes (writing_of is) i))

pub pages_open : (is : List Item) → pages_bytes is ≡ open_bytes is ++ (EOP ∷ [])
unfolding pages_bytes open_bytes first_bop
pages_open is =
    ap (λ (l : List ℕ). preamble_bytes ++ l) (sym (append_assoc (bop_bytes 1 (negsuc 0)) (items_bytes first_writing is) (EOP ∷ [])))
    ∙ sym (append_assoc preamble_bytes (bop_bytes 1 (negsuc 0) ++ items_bytes first_writing is) (EOP ∷ []))

-- what stands in a file after its pages
unfoldable pub close_bytes : List Item → List ℕ
close_bytes is =
    postamble_bytes (writing_of is).bop (writing_of is).page (length (pages_bytes is)) (characters_of is) ++ bytes223 (fillers (length (command_bytes is)))

pub file_pages : (is : List Item) → dvi2_file is ≡ pages_bytes is ++ close_bytes is
unfolding dvi2_file command_bytes close_bytes
file_pages is =
    append_assoc (pages_bytes is) (postamble_bytes (writing_of is).bop (writing_of is).page (length (pages_bytes is)) (characters_of is))
    (bytes223 (fillers (length (command_bytes is))))

pub file_open : (is : List Item) → dvi2_file is ≡ open_bytes is ++ ((EOP ∷ []) ++ close_bytes is)
file_open is =
    file_pages is ∙ ap (λ (l : List ℕ). l ++ close_bytes is) (pages_open is) ∙ append_assoc (open_bytes is) (EOP ∷ []) (close_bytes is)

-- ---- numbers

pub move_between : (a m : ℤ) → (a +ℤ m) -ℤ a ≡ m
move_between a m = omega (integers, sum_parts a m, dif_parts (a +ℤ m) a)

pub nowhere : (a b : ℤ) → a ≡ b → a -ℤ b ≡ pos 0
nowhere a b e = omega (integers, dif_parts a b)

pub move_none : (op : ℕ) (m : ℤ) → m ≡ pos 0 → move op m ≡ []
unfolding move
move_none op m e = rw (true_eq_z m (pos 0) e)

pub move_some : (op : ℕ) (m : ℤ) → eq_z m (pos 0) ≡ false → move op m ≡ shortest op m
unfolding move
move_some op m e = rw e

-- three times the height is the place down
pub thrice : (y : ℤ) → is_downward y ≡ true → pos 3 *ℤ height_of y ≡ y
unfolding is_downward height_of
thrice (pos n) e =
    let b = both (eqb (n % 3) 0) (leb n lowest) e in
    let z = eqb-true (n % 3) 0 b.0 in
    ap pos (omega arith)
thrice (negsuc n) e = absurd (suc-ne-zero 0 cc)

pub height_valid : (y : ℤ) → is_downward y ≡ true → within height_end (height_of y) ≡ true
unfolding is_downward height_of
height_valid (pos n) e =
    let b = both (eqb (n % 3) 0) (leb n lowest) e in
    let l = leb-true n lowest b.1 in
    both_true (leb 0 (n / 3)) (leb (n / 3) 1000000) (le-leb 0 (n / 3) (omega arith)) (le-leb (n / 3) 1000000 (omega arith))
height_valid (negsuc n) e = absurd (suc-ne-zero 0 cc)

pub x_between : (d : Bool) (x : ℤ) → valid_x d x ≡ true → (negsuc 54 ≤ℤ x) × (x ≤ℤ pos 3239)
x_between true x e = let h = both (le_z (negsuc 54) x) (le_z x (pos 3184)) e in (omega (integers, h.0), omega (integers, h.1))
x_between false x e = let h = both (le_z (pos 0) x) (le_z x (pos 3239)) e in (omega (integers, h.0), omega (integers, h.1))

pub between_mag : (x : ℤ) → (negsuc 54 ≤ℤ x) × (x ≤ℤ pos 3239) → mag x < 4000
between_mag (pos n) b = omega integers
between_mag (negsuc n) b = omega integers

pub x_mag : (d : Bool) (x : ℤ) → valid_x d x ≡ true → mag x < 4000
x_mag d x e = between_mag x (x_between d x e)

pub zero_valid : (d : Bool) → valid_x d (pos 0) ≡ true
zero_valid true = refl
zero_valid false = refl

-- ---- fonts

pub uses_last : (f : ℕ) (cs : List Character) (c : Character) → c.font ≡ f → uses f (cs ++ (c ∷ [])) ≡ true
unfolding uses
uses_last f [] c e = rw (eq-eqb c.font f e)
uses_last f (d ∷ cs) c e = rw (uses_last f cs c e) (or_right (eqb d.font f))
  where
    or_right : (t : Bool) → (t || true) ≡ true
    or_right true = refl
    or_right false = refl

-- a font that is not used yet is defined and selected
pub change_new : (cs : List Character) (o : Option ℕ) (f : ℕ) → uses f cs ≡ false → ((g : ℕ) → o ≡ some g → uses g cs ≡ true)
    → font_change (uses f cs) o f ≡ definition f ++ selects f
unfolding font_change font_commands
change_new cs none f u k = rw u
change_new cs (some g) f u k = go (eqb g f) refl
  where
    go : (t : Bool) → eqb g f ≡ t → cond t [] (cond (uses f cs) (selects f) (definition f ++ selects f)) ≡ definition f ++ selects f
    go true e =
        let h : uses f cs ≡ true = ap (λ (j : ℕ). uses j cs) (sym (eqb-true g f e)) ∙ k g refl in
        let z : true ≡ false = sym h ∙ u in
        let y : ◌≡◌ {A = ℕ} 0 1 = cc in
        absurd (omega arith)
    go false e = rw u

-- one that is, and differs, is only selected
pub change_used : (cs : List Character) (o : Option ℕ) (f : ℕ) → uses f cs ≡ true → is_font o f ≡ false → font_change (uses f cs) o f ≡ selects f
unfolding font_change font_commands
change_used cs none f u n = rw u
change_used cs (some g) f u n = rw (n, u)

pub change_none : (cs : List Character) (f : ℕ) → font_change (uses f cs) (some f) f ≡ []
unfolding font_change
change_none cs f = rw (eq-eqb f f refl)

-- a font that is used is one of the 120
pub used_small : (f : ℕ) (is : List Item) → AllValid height_end is → uses f (characters_of is) ≡ true → f < 120
unfolding uses characters_of
used_small f [] v u = absurd (suc-ne-zero 0 cc)
used_small f (Placed c ∷ is) (more v vs) u =
    either (eqb c.font f) (uses f (characters_of is)) u (f < 120)
    (λ e. subst (λ (g : ℕ). g < 120) (eqb-true c.font f e) (valid_parts {c = c} v).font)
    (λ e. used_small f is vs e)
used_small f (Cut ∷ is) (more v vs) u = used_small f is vs u

-- one piece more
pub more_bytes : (bs o rest c : List ℕ) → bs ≡ o ++ rest → bs ++ c ≡ o ++ (rest ++ c)
more_bytes bs o rest c e = ap (λ (l : List ℕ). l ++ c) e ∙ append_assoc o rest c
