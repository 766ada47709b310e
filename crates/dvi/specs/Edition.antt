-- Demand 3, stated once for every edition of DVI (document 01, "Demand 3 in these terms"; document 02, "Software cuts", "Longer columns" and "The second
-- edition of DVI"): what the file of a list of items shows, in terms of the characters and cuts alone, clause by clause. Places are in thirds of an rsu.
--     Edition            an edition: its file of a list of items, what a file shows, its bounds, and its reader
--     ShowsCharacter     a mark shows a character, at most so far from its place
--     ShowsAll           marks show characters and cuts, in order, from a page on
--     Faithful           the file of a list shows it, and is read
--     Alike              two characters, and the marks that show them
--     Compared           two lists, and what their files show
--     Demand3            demand 3 of an edition
use Rattle.std.specs.Prelude.{◌↔◌, ◌≡◌, ℕ, suc, ◌≤◌, List, [], ◌∷◌, ℤ, pos, nat_abs, ◌-ℤ◌, ◌*ℤ◌, length}
use Rattle.std.proofs.Math.Option.{Option, some}
use Rattle.std.proofs.Math.ListN.{get_elem?}
use Rattle.octets.specs.Answer.{Result, written, if_room}
use Rattle.galley_file.specs.declared.character.Character.{Character}
use Rattle.galley_file.specs.declared.item.Item.{Item}
use Rattle.galley_file.specs.declared.item.Item.TheVariants.{Placed, Cut}
use Rattle.galley_file.specs.Galley.{max_items, AllValid}
use Rattle.sheet.specs.Sheet.{Mark, page_mark, char_mark, rule_mark}

pub record Edition : Type 0 where
  -- the file of a list of items, "fixed to the last one by the writer's rules"
  pub file : List Item → List ℕ
  -- what a file shows, "not from our writer or reader", with places in thirds of an rsu; none where it is refused
  pub show : List ℕ → Option (List Mark)
  -- how far across from its true place a character may be shown, in thirds of an rsu
  pub distance : ℕ
  -- the greatest height that it holds, in quanta
  pub greatest : ℤ
  -- the longest file that its reader takes
  pub longest : ℕ
  -- what its reader gives for a file and a buffer of so many bytes, and its refusal of too little room
  pub read : List ℕ → ℕ → Result
  pub no_room : ℕ
  -- what its reader gives back of the file of a list of items: in 1980 the sheet, in the second edition "the galley in place of a sheet"
  pub reply : List Item → List ℕ

-- ---- one list

pub record ShowsCharacter (distance : ℕ) (c : Character) (m : Mark) : Type 0 where
  pub shown_x : ℤ
  -- "that character in the font of its font number. Its y is 32,768 x height", in rsu
  pub mark_is : m ≡ char_mark shown_x (pos 3 *ℤ (pos 32768 *ℤ c.height.0)) (pos c.font) c.code
  -- "three times the x shown, less 32,768 times the galley's x": at most so much
  pub near_place : nat_abs (shown_x -ℤ pos 32768 *ℤ c.x.0) ≤ distance

-- "For each character of the galley, in order, and for nothing else", on page n and those after it, "empty pages included"; "a cut
-- shows as the start of the next page"
pub data ShowsAll (distance : ℕ) : ℕ → List Item → List Mark → Type 0 where
  shows_none : {n : ℕ} → ShowsAll distance n [] []
  shows_next : {n : ℕ} {c : Character} {m : Mark} {is : List Item} {ms : List Mark} → ShowsCharacter distance c m → ShowsAll distance n is ms → ShowsAll distance n (Placed c ∷ is) (m ∷ ms)
  shows_cut : {n : ℕ} {is : List Item} {ms : List Mark} → ShowsAll distance (suc n) is ms → ShowsAll distance n (Cut ∷ is) (page_mark (pos (suc n)) ∷ ms)

pub record Faithful (e : Edition) (is : List Item) : Type 0 where
  pub file_size : length (e.file is) ≤ e.longest
  -- "It shows page 1 and no rule": page 1, and the marks of the characters and cuts alone
  pub marks : List Mark
  pub shown : e.show (e.file is) ≡ some (page_mark (pos 1) ∷ marks)
  pub all_shown : ShowsAll e.distance 1 is marks
  -- the reader's reply, "byte for byte", where it has room
  pub read_back : (room : ℕ) → e.read (e.file is) room ≡ if_room e.no_room room (written (e.reply is))

-- ---- two lists

-- the font and the place that a mark shows
abbrev pub shown_font : Mark → ℤ
shown_font (page_mark n) = pos 0
shown_font (char_mark x y f c) = f
shown_font (rule_mark kind x y h w) = pos 0

abbrev pub shown_place : Mark → ℤ × ℤ
shown_place (page_mark n) = (pos 0, pos 0)
shown_place (char_mark x y f c) = (x, y)
shown_place (rule_mark kind x y h w) = (x, y)

-- "equal fonts where the font numbers are equal, and equal places where x and height are equal", and only there
pub record Alike (c d : Character) (m n : Mark) : Type 0 where
  pub fonts : (shown_font m ≡ shown_font n) ↔ (c.font ≡ d.font)
  pub places : (shown_place m ≡ shown_place n) ↔ ((c.x ≡ d.x) × (c.height ≡ d.height))

pub record Compared (e : Edition) (is js : List Item) (ms ns : List Mark) : Type 0 where
  -- two lists have the same file exactly if characters, fonts, places and cuts, in order, are equal
  pub same_file : (e.file is ≡ e.file js) ↔ (is ≡ js)
  -- "at each character"
  pub each : (i : ℕ) (c d : Character) (m n : Mark) → get_elem? is i ≡ some (Placed c) → get_elem? js i ≡ some (Placed d) → get_elem? ms i ≡ some m → get_elem? ns i ≡ some n → Alike c d m n

-- ---- the demand

-- a list that demand 3 is about
pub record Within (e : Edition) (is : List Item) : Type 0 where
  pub valid : AllValid e.greatest is
  pub few : length is ≤ max_items

pub record Demand3 (e : Edition) : Type 0 where
  pub faithful : {is : List Item} → Within e is → Faithful e is
  pub compared : {is js : List Item} {ms ns : List Mark} → Within e is → Within e js → e.show (e.file is) ≡ some (page_mark (pos 1) ∷ ms)
      → e.show (e.file js) ≡ some (page_mark (pos 1) ∷ ns) → Compared e is js ms ns
