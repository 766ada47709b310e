-- The galley whose targets a DVI file shows (document 02, "DVI back to a galley").
--     character_shown     the character that is shown in this font and place, and with this number
--     item_shown          the item that a mark shows, on page n: a character, or a cut
--     Made                what the marks so far make: nothing, items, or the place of the first command that breaks a condition
--     with_mark            one mark more
--     makes               a list of marks more
--     back_result          what the file gives, for a table of widths and a buffer of so many bytes
--     GalleyOf            marks show the targets of these items, a valid galley
--     Conditions          the conditions for such a galley
--     FirstBreak          the first command with which what is shown is no galley's
use Rattle.std.specs.Prelude.{ℕ, suc, ◌+◌, ◌-◌, ◌≤◌, true, cond, ◌⊎◌, List, [], ◌∷◌, ◌++◌, map, ◌≡◌, ltb, ℤ, pos, negsuc, length}
use Rattle.std.proofs.Math.Option.{Option, none, some}
use Rattle.integers.specs.Equality.{eq_z}
use Rattle.integers.specs.Tables.{numbers}
use Rattle.octets.specs.Answer.{Result, refusal, written, if_room, no_galley, no_galley_room}
use Rattle.measure.specs.Place.{height_end}
use Rattle.measure.specs.Target.{x_target, y_target}
use Rattle.galley_file.specs.declared.character.Character.{Character}
use Rattle.galley_file.specs.declared.item.Item.{Item}
use Rattle.galley_file.specs.declared.item.Item.TheVariants.{Placed, Cut}
use Rattle.galley_file.specs.declared.form.Form.TheVariants.{New}
use Rattle.galley_file.specs.Character.{valid}
use Rattle.galley_file.specs.Item.{cuts_of}
use Rattle.galley_file.specs.Galley.{max_items, AllValid, galley}
use Rattle.sheet.specs.Sheet.{Mark, page_mark, char_mark, rule_mark}
use Rattle.sheet.specs.Shown.{ShownAs, refused_at, shows}
use Rattle.dvi.specs.File.{PlacedMark, mark_in, read_placed}
use Rattle.sheet.specs.Readable.{if_readable}
use Rattle.dvi.specs.Sheet.{whole_fonts}
use Rattle.dvi.specs.Demand3.{marks_of}
use Rattle.dvi_galley.specs.Target.{x_of_target, height_of_target}

-- ---- a mark's item

-- "each character is 1 to 108 in a font 0 to 119 whose place is the target of a valid x and height"
abbrev pub if_valid : Character → Option Character
if_valid c = cond (valid height_end c) (some c) none

unfoldable pub character_shown : Option ℤ → Option ℤ → ℤ → ℕ → Option Character
character_shown (some x) (some h) (pos f) c = if_valid (record { x = record { 0 = x }; height = record { 0 = h }; font = f; code = c })
character_shown (some x) (some h) (negsuc f) c = none
character_shown (some x) none f c = none
character_shown none h f c = none

abbrev pub placed_item : Option Character → Option Item
placed_item (some c) = some (Placed c)
placed_item none = none

-- after n pages: "pages are numbered 1, 2, 3 on, there are no rules"
unfoldable pub item_shown : ℕ → Mark → Option Item
item_shown n (page_mark z) = cond (eq_z z (pos (suc n))) (some Cut) none
item_shown n (char_mark x y f c) = placed_item (character_shown (x_of_target x) (height_of_target y) f c)
item_shown n (rule_mark kind x y h w) = none

-- ---- the galley, mark by mark

pub data Made : Type 0 where
  -- no page yet
  nothing : Made
  -- page 1 and what follows it, as items
  made : List Item → Made
  -- the place of the first command that breaks a condition
  broken : ℕ → Made

-- the pages so far
abbrev pub pages_of : Made → ℕ
pages_of nothing = 0
pages_of (made is) = suc (cuts_of is)
pages_of (broken place) = 0

-- what the command at `at` adds: page 1 comes first and is no item, then "characters and cuts are at most 1,048,576"
unfoldable pub with_one_item : Made → ℕ → Option Item → Made
with_one_item nothing at (some Cut) = made []
with_one_item nothing at (some (Placed c)) = broken at
with_one_item nothing at none = broken at
with_one_item (made is) at (some i) = cond (ltb (length is) max_items) (made (is ++ (i ∷ []))) (broken at)
with_one_item (made is) at none = broken at
with_one_item (broken place) at i = broken place

unfoldable pub with_mark : Made → PlacedMark → Made
with_mark m p = with_one_item m p.place (item_shown (pages_of m) p.mark)

unfoldable pub makes : Made → List PlacedMark → Made
makes m [] = m
makes m (p ∷ ps) = makes (with_mark m p) ps

-- ---- the result

-- 45; a file that is not refused shows a page
unfoldable pub made_result : Made → Result
made_result nothing = refusal no_galley 0
made_result (made is) = written (galley New is)
made_result (broken place) = refusal no_galley place

unfoldable pub shown_galley : ShownAs PlacedMark → Result
shown_galley (refused_at number place) = refusal number place
shown_galley (shows ps) = made_result (makes nothing ps)

-- 20, 31, what the reader refuses the file for, 45, 12
unfoldable pub back_result : List ℕ → List ℤ → ℕ → Result
back_result dvi widths room = if_readable dvi (whole_fonts widths) (if_room no_galley_room room (shown_galley (read_placed widths dvi)))

-- ---- what it is to be

-- "the galley whose targets it shows": page 1, the characters at their targets, a cut as the start of the next page
pub record GalleyOf (ms : List Mark) (is : List Item) : Type 0 where
  pub targets : ms ≡ page_mark (pos 1) ∷ marks_of 1 is
  pub all_valid : AllValid height_end is
  pub few : length is ≤ max_items

-- ---- the conditions

-- the numbers of the pages, in order, and the number of characters
unfoldable pub page_numbers : List Mark → List ℤ
page_numbers [] = []
page_numbers (page_mark z ∷ ms) = z ∷ page_numbers ms
page_numbers (char_mark x y f c ∷ ms) = page_numbers ms
page_numbers (rule_mark kind x y h w ∷ ms) = page_numbers ms

unfoldable pub character_count : List Mark → ℕ
character_count [] = 0
character_count (page_mark z ∷ ms) = character_count ms
character_count (char_mark x y f c ∷ ms) = character_count ms + 1
character_count (rule_mark kind x y h w ∷ ms) = character_count ms

-- "each character is 1 to 108 in a font 0 to 119 whose place is the target of a valid x and height": it is that of a valid character
pub record AtTarget (x y f : ℤ) (c : ℕ) : Type 0 where
  pub character : Character
  pub is_valid : valid height_end character ≡ true
  pub font_is : f ≡ pos character.font
  pub code_is : c ≡ character.code
  pub across : x ≡ x_target character.x.0
  pub down : y ≡ y_target character.height.0

-- no rule, and each character so
abbrev pub SoundMark : Mark → Type 0
SoundMark (page_mark z) = Unit {0}
SoundMark (char_mark x y f c) = AtTarget x y f c
SoundMark (rule_mark kind x y h w) = ⊥

pub data AllSound : List Mark → Type 0 where
  sound_none : AllSound []
  sound_more : {m : Mark} {ms : List Mark} → SoundMark m → AllSound ms → AllSound (m ∷ ms)

pub record Conditions (ms : List Mark) : Type 0 where
  -- "pages are numbered 1, 2, 3 on"
  pub numbered : page_numbers ms ≡ map pos (numbers 1 (length (page_numbers ms)))
  -- "there are no rules, and each character is .."
  pub all_sound : AllSound ms
  -- "characters and cuts are at most 1,048,576": a cut is the start of a page after the first
  pub few : character_count ms + (length (page_numbers ms) - 1) ≤ max_items

-- ---- the place of 45

-- what is shown before the command at `place` is nothing, or all of a galley; with that command it is no galley's any more
pub record FirstBreak (ps : List PlacedMark) (place : ℕ) : Type 0 where
  pub behind : List PlacedMark
  pub breaks : PlacedMark
  pub ahead : List PlacedMark
  pub split : ps ≡ behind ++ (breaks ∷ ahead)
  pub place_is : breaks.place ≡ place
  pub good_before : (behind ≡ []) ⊎ ((is : List Item) × GalleyOf (map mark_in behind) is)
  pub bad_with : (is : List Item) → GalleyOf (map mark_in (behind ++ (breaks ∷ []))) is → ⊥
