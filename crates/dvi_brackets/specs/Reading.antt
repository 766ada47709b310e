-- The code's items and runs as those of the definition, and what the private contracts cite; nothing here is part of what a call promises.
--     InFile                                   the place in the sheet and the count of marks, where a file is read up to a place
--     item_marks, run_marks                      what an item or a run shows
--     GoodItem, GoodRun                        no refusal
--     bracket_item, bracket_run                  the code's item or run, with its marks, as the definition's
--     item_to, item_count, run_to, run_count       the place in the sheet and the marks so far, after it
--     RoomyItem, RoomyRun                      no refusal, and its fields have room
--     ItemDone, RunDone                        it is read, and its fields are written, if writing
--     LeavesAt, LeftBy                         a group is left
use Rattle.std.specs.Prelude.{◌≡◌, Bool, List, [], ℕ, ◌+◌, ◌*◌, ◌≤◌, ◌<◌, length}
use Rattle.octets.specs.Answer.{number_in}
use Rattle.octets.specs.declared.refusal.Reason.TheVariants.{EntriesLeft}
use Rattle.dvi.specs.Page as S
use Rattle.sheet.specs.Sheet.{Mark, mark_fields}
use Rattle.sheet.specs.Readable.{max_file}
use Rattle.dvi_page.specs.Stack.{six_numbers}
use Rattle.dvi_page.specs.Page.{page_of}
use Rattle.dvi_page.specs.declared.page.Page.{Page}
use Rattle.octets.specs.Write.{Put}
use Rattle.dvi_brackets.specs.Brackets as B
use Rattle.dvi_brackets.specs.Brackets.{bad_item, past_item, page_end, bad_run, to_pop, to_eop}
use Rattle.dvi_brackets.specs.declared.Item.{Item}
use Rattle.dvi_brackets.specs.declared.Item.TheVariants as I
use Rattle.dvi_brackets.specs.declared.Run.{Run}
use Rattle.dvi_brackets.specs.declared.Run.TheVariants as R

-- the place in the sheet and the count of marks are within those of a file read up to `at`
pub record InFile (at to count : ℕ) : Type 0 where
  pub low : at ≤ max_file
  pub near : to ≤ 20 * at
  pub few : count ≤ at

-- ---- items

abbrev pub item_marks : B.Item → List Mark
item_marks (bad_item k i) = []
item_marks (past_item q ms n) = ms
item_marks page_end = []

abbrev pub GoodItem : B.Item → Type 0
GoodItem (bad_item k i) = ⊥
GoodItem (past_item q ms n) = Unit {0}
GoodItem page_end = Unit {0}

-- the code's item, with the marks that it shows
abbrev pub bracket_item : Item → List Mark → B.Item
bracket_item (I.Fault k i) ms = bad_item (number_in k) i
bracket_item (I.Past p n to count) ms = past_item (page_of p []) ms n
bracket_item I.End ms = page_end

-- the place in the sheet after it, and the marks so far
abbrev pub item_to : Item → ℕ → ℕ
item_to (I.Fault k i) to = to
item_to (I.Past p n t c) to = t
item_to I.End to = to

abbrev pub item_count : Item → ℕ → ℕ
item_count (I.Fault k i) count = count
item_count (I.Past p n t c) count = c
item_count I.End count = count

pub record RoomyItem (x : B.Item) (to room : ℕ) : Type 0 where
  pub accepted : GoodItem x
  pub enough : to + length (mark_fields (item_marks x)) ≤ room

-- r is the item x, read with the sheet's bytes `before`, which are now `later`
pub record ItemDone (x : B.Item) (w : Bool) (before : List ℕ) (to count : ℕ) (r : Item) (later : List ℕ) : Type 0 where
  pub found : bracket_item r (item_marks x) ≡ x
  pub put : Put w before to (mark_fields (item_marks x)) later (item_to r to)
  pub counted : item_count r count ≡ count + length (item_marks x)

-- ---- runs

abbrev pub run_marks : B.Run → List Mark
run_marks (bad_run k i) = []
run_marks (to_pop q ms n) = ms
run_marks (to_eop ms n) = ms

abbrev pub GoodRun : B.Run → Type 0
GoodRun (bad_run k i) = ⊥
GoodRun (to_pop q ms n) = Unit {0}
GoodRun (to_eop ms n) = Unit {0}

abbrev pub bracket_run : Run → List Mark → B.Run
bracket_run (R.Fault k i) ms = bad_run (number_in k) i
bracket_run (R.Pop p n to count) ms = to_pop (page_of p []) ms n
bracket_run (R.Eop n to count) ms = to_eop ms n

abbrev pub run_to : Run → ℕ → ℕ
run_to (R.Fault k i) to = to
run_to (R.Pop p n t c) to = t
run_to (R.Eop n t c) to = t

abbrev pub run_count : Run → ℕ → ℕ
run_count (R.Fault k i) count = count
run_count (R.Pop p n t c) count = c
run_count (R.Eop n t c) count = c

pub record RoomyRun (x : B.Run) (to room : ℕ) : Type 0 where
  pub accepted : GoodRun x
  pub enough : to + length (mark_fields (run_marks x)) ≤ room

pub record RunDone (x : B.Run) (w : Bool) (before : List ℕ) (to count : ℕ) (r : Run) (later : List ℕ) : Type 0 where
  pub found : bracket_run r (run_marks x) ≡ x
  pub put : Put w before to (mark_fields (run_marks x)) later (run_to r to)
  pub counted : run_count r count ≡ count + length (run_marks x)

-- ---- leaving a group

-- the run of the group whose PUSH stands at `at` lies in a file within the limit
abbrev pub LeavesAt : ℕ → Run → Type 0
LeavesAt at (R.Fault k i) = Unit {0}
LeavesAt at (R.Pop p n t c) = at + 1 + n < max_file
LeavesAt at (R.Eop n t c) = at + 1 + n < max_file

-- the item that a group is which was entered on the page p
abbrev pub LeftBy : ℕ → Page → Run → Item → Type 0
LeftBy at p (R.Fault k i) r = r ≡ I.Fault k i
LeftBy at p (R.Pop q n t c) r = (o : Page) × ((page_of o [] ≡ S.with_numbers (page_of q []) (six_numbers p.numbers)) × (r ≡ I.Past o (n + 1) t c))
LeftBy at p (R.Eop n t c) r = r ≡ I.Fault EntriesLeft (at + 1 + n)
