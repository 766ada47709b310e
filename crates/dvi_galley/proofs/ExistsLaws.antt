-- There is a galley whose targets a file shows exactly if the conditions hold.
--     exists_exactly     of what a file shows
--     shows_page         a file that is not refused shows a page first (`PageFirst`)
-- Assumes nothing.
use Rattle.std.specs.Prelude.{◌↔◌, ◌≡◌, refl, Bool, true, false, cond, ◌&&◌, ℕ, zero, suc, ◌+◌, ◌≤◌, leb, eqb, ℤ, negsuc, length, take}
use Rattle.std.proofs.Common.{sym, ap, subst, ◌∙◌, add-one, arith}
use mathlib.Core.List.{List, [], ◌∷◌, map}
use Rattle.std.proofs.Math.IntN.{pos}
use Rattle.std.specs.Int.Signed.{non_neg}
use Rattle.integers.specs.Equality.{eq_z}
use Rattle.integers.specs.Tables.{numbers}
use Rattle.octets.specs.Octets.{signed, signed_at}
use Rattle.octets.specs.Answer.{bad_command}
use Rattle.octets.specs.OctetsLaws.{by_cond}
use Rattle.measure.specs.Place.{height_end}
use Rattle.galley_file.specs.declared.character.Character.{Character}
use Rattle.galley_file.specs.declared.item.Item.{Item}
use Rattle.galley_file.specs.declared.item.Item.TheVariants.{Placed, Cut}
use Rattle.galley_file.specs.Character.{valid}
use Rattle.galley_file.specs.Item.{characters_of, cuts_of}
use Rattle.galley_file.specs.ItemLaws.{all_counted}
use Rattle.galley_file.specs.Galley.{max_items, AllValid, nil, more}
use Rattle.dvi.specs.Command.{BOP, PST}
use Rattle.sheet.specs.Sheet.{Mark, page_mark, char_mark, rule_mark}
use Rattle.dvi.specs.Page.{new_page}
use Rattle.sheet.specs.Shown.{Shown, refused_at, shows, shows_first}
use Rattle.dvi.specs.File.{State, between, inside, Step, refuse, begin_page, end_file, step, follow, run, run_as, read_as, read_dvi, marks_alone}
use Rattle.dvi.specs.Demand3.{character_mark, marks_of}
use Rattle.dvi_galley.specs.Back.{GalleyOf, page_numbers, character_count, AtTarget, SoundMark, AllSound, sound_none, sound_more, Conditions}

-- ---- from the conditions to the items

target_mark : {x y f : ℤ} {c : ℕ} (a : AtTarget x y f c) → char_mark x y f c ≡ character_mark a.character
unfolding character_mark
target_mark a = (λ k. char_mark (a.across k) (a.down k) (a.font_is k) (a.code_is k))

sound_character : (c : Character) → valid height_end c ≡ true → SoundMark (character_mark c)
unfolding character_mark
sound_character c v = record { character = c; is_valid = v; font_is = refl; code_is = refl; across = refl; down = refl }

-- what marks on page n and after it are
record Listed (n : ℕ) (ms : List Mark) : Type 0 where
  pub items : List Item
  pub marks_are : ms ≡ marks_of n items
  pub all_valid : AllValid height_end items
  pub as_many : length items ≡ character_count ms + length (page_numbers ms)

listed : (n : ℕ) (ms : List Mark) → page_numbers ms ≡ map pos (numbers (suc n) (length (page_numbers ms))) → AllSound ms → Listed n ms
unfolding page_numbers character_count marks_of
listed n [] e s = record { items = []; marks_are = refl; all_valid = nil; as_many = refl }
listed n (page_mark z ∷ ms) e (sound_more t s) =
    let d : z ≡ pos (suc n) = cc in
    let f : page_numbers ms ≡ map pos (numbers (suc (suc n)) (length (page_numbers ms))) = cc in
    let r = listed (suc n) ms f s in
    record {
      items = Cut ∷ r.items;
      marks_are = (λ k. page_mark (d k) ∷ r.marks_are k);
      all_valid = more refl r.all_valid;
      as_many = omega (arith, r.as_many);
    }
listed n (char_mark x y f c ∷ ms) e (sound_more t s) =
    let r = listed n ms e s in
    record {
      items = Placed t.character ∷ r.items;
      marks_are = (λ k. target_mark t k ∷ r.marks_are k);
      all_valid = more t.is_valid r.all_valid;
      as_many = omega (arith, r.as_many);
    }
listed n (rule_mark kind x y h w ∷ ms) e (sound_more t s) = absurd t

-- ---- from the items to the conditions

pages_of_lem : (n : ℕ) (is : List Item) → page_numbers (marks_of n is) ≡ map pos (numbers (suc n) (cuts_of is))
unfolding page_numbers marks_of character_mark cuts_of
pages_of_lem n [] = refl
pages_of_lem n (Placed c ∷ is) = pages_of_lem n is
pages_of_lem n (Cut ∷ is) = ap (λ (l : List ℤ). pos (suc n) ∷ l) (pages_of_lem (suc n) is) ∙ rw add-one

characters_of_lem : (n : ℕ) (is : List Item) → character_count (marks_of n is) ≡ length (characters_of is)
unfolding character_count marks_of character_mark characters_of
characters_of_lem n [] = refl
characters_of_lem n (Placed c ∷ is) = omega (arith, characters_of_lem n is)
characters_of_lem n (Cut ∷ is) = characters_of_lem (suc n) is

sounds : (n : ℕ) {is : List Item} → AllValid height_end is → AllSound (marks_of n is)
unfolding marks_of
sounds n nil = sound_none
sounds n (more {i = Placed c} v vs) = sound_more (sound_character c v) (sounds n vs)
sounds n (more {i = Cut} v vs) = sound_more tt (sounds (suc n) vs)

length_pages : (k n : ℕ) → length (map pos (numbers k n)) ≡ n
length_pages k zero = refl
length_pages k (suc n) = omega (arith, length_pages (suc k) n)

conditions_of : (is : List Item) → AllValid height_end is → length is ≤ max_items → Conditions (page_mark (pos 1) ∷ marks_of 1 is)
unfolding page_numbers character_count
conditions_of is v l =
    let p = pages_of_lem 1 is in
    let n : length (page_numbers (marks_of 1 is)) ≡ cuts_of is = ap length p ∙ length_pages 2 (cuts_of is) in
    record {
      numbered = ap (λ (l : List ℤ). pos 1 ∷ l) p ∙ ap (λ (k : ℕ). pos 1 ∷ map pos (numbers 2 k)) (sym n);
      all_sound = sound_more tt (sounds 1 v);
      few = omega (arith, l, n, characters_of_lem 1 is, all_counted is);
    }

-- ---- there is one exactly if they hold

module _ (z : ℤ) (ms : List Mark) where
  conditions_exist : Conditions (page_mark z ∷ ms) → (is : List Item) × GalleyOf (page_mark z ∷ ms) is
  unfolding page_numbers character_count
  conditions_exist c =
      let e = c.numbered in
      let d : z ≡ pos 1 = cc in
      let f : page_numbers ms ≡ map pos (numbers 2 (length (page_numbers ms))) = cc in
      let r = listed 1 ms f (rest c.all_sound) in (
        r.items,
        record { targets = (λ k. page_mark (d k) ∷ r.marks_are k); all_valid = r.all_valid; few = omega (arith, r.as_many, c.few) },
      )
    where
      rest : AllSound (page_mark z ∷ ms) → AllSound ms
      rest (sound_more t s) = s

  exist_conditions : (is : List Item) → GalleyOf (page_mark z ∷ ms) is → Conditions (page_mark z ∷ ms)
  exist_conditions is g = subst Conditions (sym g.targets) holds
    where
      holds : Conditions (page_mark (pos 1) ∷ marks_of 1 is)
      holds = conditions_of is g.all_valid g.few

-- a file that is not refused shows a page first
pub record PageFirst (ms : List Mark) : Type 0 where
  pub number : ℤ
  pub others : List Mark
  pub first_is : ms ≡ page_mark number ∷ others

abbrev pub FirstIn : Shown → Type 0
FirstIn (refused_at k at) = Unit {0}
FirstIn (shows ms) = PageFirst ms

first_page : (n : ℤ) (x : Shown) → FirstIn (shows_first (page_mark n ∷ []) x)
unfolding shows_first
first_page n (refused_at k at) = tt
first_page n (shows ms) = record { number = n; others = ms; first_is = refl }

-- the steps that the first command can make
abbrev Opens : Step → Type 0
Opens s = (rest : State → ℕ → Shown) → FirstIn (follow marks_alone 0 s rest)

-- PST does not come first
no_page : (ps : List ℕ) (t : Bool) → Opens (cond (t && non_neg (negsuc 0)) (end_file (negsuc 0) 0 ps) (refuse bad_command))
unfolding follow
no_page ps true rest = tt
no_page ps false rest = tt

opens : (ws : List ℤ) (op : ℕ) (ps : List ℕ) → Opens (step ws 0 (between (negsuc 0)) op ps)
unfolding step begin_page follow
opens ws op ps =
    by_cond Opens (eqb op BOP) _ _
    (λ _.
    by_cond Opens (leb 8 (length ps)) _ _
    (λ _. by_cond Opens (eq_z (signed_at 4 4 ps) (negsuc 0)) _ _ (λ _ rest. first_page (signed (take 4 ps)) (rest (inside (pos 0) new_page) 8)) (λ _ rest. tt))
    (λ _ rest. tt))
    (λ _. no_page ps (eqb op PST))

pub shows_page : (ws : List ℤ) (dvi : List ℕ) → FirstIn (read_dvi ws dvi)
unfolding read_as run_as
shows_page ws [] = tt
shows_page ws (b ∷ bs) = opens ws b bs (λ r n. run ws 1 r n bs)

-- "It exists exactly if .."
pub exists_exactly : (widths : List ℤ) (dvi : List ℕ) (ms : List Mark) → read_dvi widths dvi ≡ shows ms → ((is : List Item) × GalleyOf ms is) ↔ Conditions ms
exists_exactly widths dvi ms e =
    let p : PageFirst ms = subst FirstIn e (shows_page widths dvi) in
    subst (λ (ns : List Mark). ((is : List Item) × GalleyOf ns is) ↔ Conditions ns) (sym p.first_is)
    (λ g. exist_conditions p.number p.others g.0 g.1, conditions_exist p.number p.others)
