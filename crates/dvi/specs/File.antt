-- What a DVI file shows, or why it is refused and where (document 01, "What a DVI file shows").
--     State        where a reader of the file stands
--     Step         what the command there leads to
--     step         the step that each command makes
--     run_as        what the rest of a file shows, where `tell` is what is told of a command's marks; run: the marks alone
--     read_as       what a file shows, with these widths, as told
--     read_dvi      the marks alone
--     read_placed   each mark with the offset of its command
use Rattle.std.specs.Prelude.{ℕ, zero, suc, cond, ◌&&◌, List, [], ◌∷◌, map, leb, eqb, ℤ, pos, negsuc, length, take}
use Rattle.std.specs.Int.Signed.{non_neg}
use Rattle.integers.specs.Equality.{eq_z}
use Rattle.octets.specs.Octets.{signed, signed_at}
use Rattle.octets.specs.Answer.{bad_command, dvi_ends_early, wrong_offset, bad_postamble}
use Rattle.sheet.specs.Sheet.{Mark, page_mark}
use Rattle.sheet.specs.Shown.{ShownAs, Shown, refused_at, shows, shows_first}
use Rattle.dvi.specs.Command.{BOP, PST, Decoded, no_command, cut_short, command, decode}
use Rattle.dvi.specs.Page.{Page, new_page, Effect, fault, moved, marked, ended, effect}
use Rattle.dvi.specs.Postamble.{postamble}

-- between pages or inside one; the integer is the offset of the last BOP, -1 before the first
pub data State : Type 0 where
  between : ℤ → State
  inside : ℤ → Page → State

pub data Step : Type 0 where
  -- a refusal with this number
  refuse : ℕ → Step
  -- the state after the command, what it shows, and the number of its parameters' bytes
  go_on : State → List Mark → ℕ → Step
  -- the end of the file
  finish : Step

unfoldable pub after_effect : ℤ → ℕ → Effect → Step
after_effect last n (fault r) = refuse r
after_effect last n (moved p) = go_on (inside last p) [] n
after_effect last n (marked p m) = go_on (inside last p) (m ∷ []) n
after_effect last n ended = go_on (between last) [] n

-- a command inside a page; 21: undefined, or not allowed there; 22: the file ends inside it
unfoldable pub in_page : List ℤ → ℤ → Page → Decoded → Step
in_page ws last p no_command = refuse bad_command
in_page ws last p cut_short = refuse dvi_ends_early
in_page ws last p (command c n) = after_effect last n (effect ws p c)

-- BOP n<4> p<4> at offset `at`: page n, and p the offset of the previous BOP; 22: the file ends inside it; 23: p is wrong
unfoldable pub begin_page : ℤ → ℕ → List ℕ → Step
begin_page last at ps =
    cond (leb 8 (length ps))
    (cond (eq_z (signed_at 4 4 ps) last) (go_on (inside (pos at) new_page) (page_mark (signed (take 4 ps)) ∷ []) 8) (refuse wrong_offset))
    (refuse dvi_ends_early)

-- PST at offset `at`; 29: the postamble is malformed or short
unfoldable pub end_file : ℤ → ℕ → List ℕ → Step
end_file last at ps = cond (postamble last at ps) finish (refuse bad_postamble)

-- the command at offset `at` with first byte op, before the bytes ps; between pages BOP, and PST after a page, and nothing else
unfoldable pub step : List ℤ → ℕ → State → ℕ → List ℕ → Step
step ws at (inside last p) op ps = in_page ws last p (decode op ps)
step ws at (between last) op ps =
    cond (eqb op BOP) (begin_page last at ps)
    (cond (eqb op PST && non_neg last) (end_file last at ps) (refuse bad_command))

-- what a step at offset `at` shows, with what the rest shows; `tell` is what is told of a command's offset and marks
unfoldable pub follow : {A : Type 0} → (ℕ → List Mark → List A) → ℕ → Step → (State → ℕ → ShownAs A) → ShownAs A
follow tell at (refuse r) rest = refused_at r at
follow tell at (go_on q ms n) rest = shows_first (tell at ms) (rest q n)
follow tell at finish rest = shows []

-- the rest of the file from offset `at`, after n bytes that are passed over; 22: it ends inside a page, or before PST
unfoldable pub run_as : {A : Type 0} → (ℕ → List Mark → List A) → List ℤ → ℕ → State → ℕ → List ℕ → ShownAs A
run_as tell ws at q n [] = refused_at dvi_ends_early at
run_as tell ws at q (suc n) (b ∷ bs) = run_as tell ws (suc at) q n bs
run_as tell ws at q zero (b ∷ bs) = follow tell at (step ws at q b bs) (λ r n. run_as tell ws (suc at) r n bs)

-- the first byte is a BOP
unfoldable pub read_as : {A : Type 0} → (ℕ → List Mark → List A) → List ℤ → List ℕ → ShownAs A
read_as tell ws dvi = run_as tell ws 0 (between (negsuc 0)) 0 dvi

-- the marks alone
abbrev pub marks_alone : ℕ → List Mark → List Mark
marks_alone at ms = ms

abbrev pub run : List ℤ → ℕ → State → ℕ → List ℕ → Shown
run ws at q n bs = run_as marks_alone ws at q n bs

abbrev pub read_dvi : List ℤ → List ℕ → Shown
read_dvi ws dvi = read_as marks_alone ws dvi

-- a mark with the offset of its command
pub record PlacedMark : Type 0 where
  pub place : ℕ
  pub mark : Mark

abbrev pub mark_in : PlacedMark → Mark
mark_in p = p.mark

-- the marks of the command at `at`, with that offset
unfoldable pub placed_at : ℕ → List Mark → List PlacedMark
placed_at at [] = []
placed_at at (m ∷ ms) = record { place = at; mark = m } ∷ placed_at at ms

abbrev pub read_placed : List ℤ → List ℕ → ShownAs PlacedMark
read_placed ws dvi = read_as placed_at ws dvi

-- the marks alone of what is shown so
abbrev pub unplaced : ShownAs PlacedMark → Shown
unplaced (refused_at k at) = refused_at k at
unplaced (shows ps) = shows (map mark_in ps)
