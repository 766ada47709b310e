-- A DVI file whose PUSH and POP are read as brackets (document 02, "A plain reader to check the quick one"). No stack is known here: the stack of a `Page` stays empty.
--     Item            what an item leads to
--     Run             what a run leads to
--     command_item     an item that is a command
--     group           an item that is a group: PUSH, a run, POP
--     item            an item
--     run             a run of items
--     pages           the rest of a file, from between two pages
--     read_brackets    what a file shows, with these widths
use Rattle.std.specs.Prelude.{ℕ, zero, suc, ◌+◌, cond, List, [], ◌∷◌, ◌++◌, eqb, ℤ, negsuc, get_or, drop}
use Rattle.octets.specs.Answer.{bad_command, dvi_ends_early, stack_full, stack_empty, entries_left}
use Rattle.dvi.specs.Command.{PUSH, POP, Decoded, no_command, cut_short, command, decode}
use Rattle.sheet.specs.Sheet.{Mark}
use Rattle.dvi.specs.Page.{max_stack, Page, Effect, fault, moved, marked, ended, with_numbers, effect}
use Rattle.sheet.specs.Shown.{Shown, refused_at, shows, shows_first}
use Rattle.dvi.specs.File.{between, inside, Step, refuse, go_on, finish, step}

-- ---- items and runs

pub data Item : Type 0 where
  -- refused with this number at this place
  bad_item : ℕ → ℕ → Item
  -- the page after it, what it shows, and the number of its bytes after the first
  past_item : Page → List Mark → ℕ → Item
  -- EOP
  page_end : Item

pub data Run : Type 0 where
  -- refused with this number at this place
  bad_run : ℕ → ℕ → Run
  -- the page before a POP that is not of its groups, what the run shows, and the number of its bytes
  to_pop : Page → List Mark → ℕ → Run
  -- the same before EOP
  to_eop : List Mark → ℕ → Run

-- a command at offset `at` does what it does on any page
unfoldable pub effect_item : ℕ → ℕ → Effect → Item
effect_item at n (fault k) = bad_item k at
effect_item at n (moved q) = past_item q [] n
effect_item at n (marked q m) = past_item q (m ∷ []) n
effect_item at n ended = page_end

unfoldable pub command_item : List ℤ → ℕ → Page → Decoded → Item
command_item ws at p no_command = bad_item bad_command at
command_item ws at p cut_short = bad_item dvi_ends_early at
command_item ws at p (command c n) = effect_item at n (effect ws p c)

-- on leaving a group the six numbers are what they were on entering; 26: EOP inside it
unfoldable pub leave : ℕ → Page → Run → Item
leave at p (bad_run k i) = bad_item k i
leave at p (to_pop q ms n) = past_item (with_numbers q p.numbers) ms (suc n)
leave at p (to_eop ms n) = bad_item entries_left (suc at + n)

-- the group whose PUSH stands at offset `at`, where d groups may stand in one another; `inner` is its run, by the depth allowed there; 24: too deep
unfoldable pub group : ℕ → ℕ → Page → (ℕ → Run) → Item
group zero at p inner = bad_item stack_full at
group (suc d) at p inner = leave at p (inner d)

-- the item at offset `at` with first byte b, before the bytes bs
unfoldable pub item : List ℤ → ℕ → ℕ → Page → ℕ → List ℕ → (ℕ → Run) → Item
item ws d at p b bs inner = cond (eqb b PUSH) (group d at p inner) (command_item ws at p (decode b bs))

-- ms and n bytes come before a run
unfoldable pub first : List Mark → ℕ → Run → Run
first ms n (bad_run k i) = bad_run k i
first ms n (to_pop q ns m) = to_pop q (ms ++ ns) (n + m)
first ms n (to_eop ns m) = to_eop (ms ++ ns) (n + m)

-- an item, and the rest of its run from the page and after the bytes that it leads to
unfoldable pub then_run : Item → (Page → ℕ → Run) → Run
then_run (bad_item k i) rest = bad_run k i
then_run (past_item q ms n) rest = first ms (suc n) (rest q n)
then_run page_end rest = to_eop [] 0

-- the run from offset `at`, after n bytes that are passed over, where d groups may stand in one another; 22: the file ends inside it
unfoldable pub run : List ℤ → ℕ → ℕ → Page → ℕ → List ℕ → Run
run ws d at p n [] = bad_run dvi_ends_early at
run ws d at p (suc n) (b ∷ bs) = run ws d (suc at) p n bs
run ws d at p zero (b ∷ bs) =
    cond (eqb b POP) (to_pop p [] 0)
    (then_run (item ws d at p b bs (λ e. run ws e (suc at) p 0 bs)) (λ q n. run ws d (suc at) q n bs))

-- the item at the start of s, which stands at offset `at`
abbrev pub item_here : List ℤ → ℕ → ℕ → Page → List ℕ → Item
item_here ws d at p s = item ws d at p (get_or s 0 0) (drop 1 s) (λ e. run ws e (at + 1) p 0 (drop 1 s))

-- ---- pages

-- a page is a run and EOP, and its run starts at offset `at`; 25: POP of no group
unfoldable pub page_then : ℕ → Run → (ℕ → Shown) → Shown
page_then at (bad_run k i) rest = refused_at k i
page_then at (to_pop q ms n) rest = refused_at stack_empty (at + n)
page_then at (to_eop ms n) rest = shows_first ms (rest (suc n))

-- a command between pages at offset `at`: BOP comes before a page, PST ends the file
unfoldable pub step_then : ℕ → Step → (Page → ℕ → Run) → (ℤ → ℕ → Shown) → Shown
step_then at (refuse k) body rest = refused_at k at
step_then at (go_on (between last) ms n) body rest = shows_first ms (rest last n)
step_then at (go_on (inside last p) ms n) body rest = shows_first ms (page_then (suc at + n) (body p n) (λ k. rest last (n + k)))
step_then at finish body rest = shows []

-- the rest of the file from offset `at`, after n bytes that are passed over; the last BOP stood at `last`; 22: it ends before PST
unfoldable pub pages : List ℤ → ℕ → ℤ → ℕ → List ℕ → Shown
pages ws at last n [] = refused_at dvi_ends_early at
pages ws at last (suc n) (b ∷ bs) = pages ws (suc at) last n bs
pages ws at last zero (b ∷ bs) =
    step_then at (step ws at (between last) b bs) (λ p n. run ws max_stack (suc at) p n bs) (λ l n. pages ws (suc at) l n bs)

-- the first byte is a BOP
unfoldable pub read_brackets : List ℤ → List ℕ → Shown
read_brackets ws dvi = pages ws 0 (negsuc 0) 0 dvi
