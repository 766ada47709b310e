-- How a file of the second edition is read: command by command, each only if the writer may have made it there (document 02, "The second edition of DVI"). `Beginning`
-- says what this comes to.
--     State              how far a file is read
--     page_state_after     the state after a command of a page
--     next               the state after a whole command
--     may_begin           a command that may come next begins so
--     step               what the next command leads to
--     read               the items of a file, or the place where it is refused
--     read2_result        what the reader gives for a file and a buffer of so many bytes
use Rattle.std.specs.Prelude.{ℕ, zero, suc, ◌+◌, ◌*◌, ◌/◌, Bool, false, cond, ◌&&◌, ◌||◌, List, [], ◌∷◌, ◌++◌, map, ltb, leb, ℤ, pos, negsuc, ◌+ℤ◌, ◌-ℤ◌, length, take}
use Rattle.std.proofs.Math.Option.{Option, none, some, get_or}
use Rattle.octets.specs.Octets.{bytes}
use Rattle.octets.specs.Answer.{Result, refusal, written, if_room, file_too_long, no_galley_room, not_ours}
use Rattle.measure.specs.Target.{entry_x}
use Rattle.galley_file.specs.declared.character.Character.{Character}
use Rattle.galley_file.specs.declared.form.Form.TheVariants.{New}
use Rattle.galley_file.specs.declared.item.Item.{Item}
use Rattle.galley_file.specs.declared.item.Item.TheVariants.{Placed, Cut}
use Rattle.galley_file.specs.Item.{characters_of}
use Rattle.galley_file.specs.Galley.{galley}
use Rattle.extents.specs.FontMarks.{used_fonts}
use Rattle.dvi.specs.Writer.{Position, start_position}
use Rattle.dvi2.specs.Command.{POSTPOST}
use Rattle.dvi2.specs.File.{max_dvi2}
use Rattle.dvi2.specs.Writer.{definition, preamble_bytes, bop_bytes, Writing, first_writing, writing_after_all, pages_bytes, post_bytes, command_bytes, fillers}
use Rattle.dvi2_reading.specs.Beginning.{parameters}
use Rattle.dvi2_reading.specs.PageReading.{same, begins, some_below, PageCommand, ending, defining, selecting, across, downward, putting, in_bytes, command_of, ready, named, chosen, moved, lowered, PageState, is_more, may_come}

-- ---- the file

pub data State : Type 0 where
  start : State
  -- the preamble is there
  opened : State
  in_page : PageState → State
  -- eop, after these items
  between : List Item → State
  -- post, and these commands are to come
  closing : List Item → List (List ℕ) → State

unfoldable pub height_of : ℤ → ℤ
height_of (pos n) = pos (n / 3)
height_of (negsuc n) = pos 0

-- the character that is put
unfoldable pub character_of : Position → ℕ → Character
character_of p c = record { x = record { 0 = p.x }; height = record { 0 = height_of p.y }; font = get_or p.font 0; code = c }

unfoldable pub with_font : Position → ℕ → Position
with_font p f = record { font = some f; x = p.x; y = p.y }

unfoldable pub page_state_after : PageState → PageCommand → State
page_state_after h ending = between h.items
page_state_after h (defining f) = in_page (record { items = h.items; stage = named; position = with_font h.position f })
page_state_after h (selecting f) = in_page (record { items = h.items; stage = chosen; position = with_font h.position f })
page_state_after h (across m) =
    in_page (record { items = h.items; stage = moved; position = record { font = h.position.font; x = h.position.x +ℤ m; y = h.position.y } })
page_state_after h (downward m) =
    in_page (record { items = h.items; stage = lowered; position = record { font = h.position.font; x = h.position.x; y = h.position.y +ℤ m } })
page_state_after h (putting c) = in_page (record { items = h.items ++ (Placed (character_of h.position c) ∷ []); stage = ready; position = h.position })

-- at the start of a page
unfoldable pub new_page_state : List Item → PageState
new_page_state is = record { items = is; stage = ready; position = start_position }

-- the bop that may come, of the first page and of a further one
unfoldable pub first_bop : List ℕ
first_bop = bop_bytes 1 (negsuc 0)

unfoldable pub further_bop : Writing → List ℕ
further_bop p = bop_bytes (suc p.page) (pos p.bop)

unfoldable pub post_of : List Item → List ℕ
post_of is = post_bytes (writing_after_all first_writing is).bop (writing_after_all first_writing is).page (characters_of is)

unfoldable pub fill : ℕ → List (List ℕ)
fill zero = []
fill (suc n) = (223 ∷ []) ∷ fill n

-- the commands after post: the definitions, post_post, the bytes 223
unfoldable pub closing_of : List Item → List (List ℕ)
closing_of is =
    map definition (used_fonts 120 (characters_of is))
    ++ ((POSTPOST ∷ bytes 4 (length (pages_bytes is)) ++ (2 ∷ [])) ∷ fill (fillers (length (command_bytes is))))

-- ---- one command

unfoldable pub only : List ℕ → List ℕ → State → Option State
only c e q = cond (same c e) (some q) none

unfoldable pub page_next : PageState → List ℕ → PageCommand → Option State
page_next h c d = cond (same c (in_bytes d) && may_come h d) (some (page_state_after h d)) none

-- after the whole command c
unfoldable pub next : State → List ℕ → Option State
next start c = only c preamble_bytes opened
next opened c = only c first_bop (in_page (new_page_state []))
next (in_page h) c = page_next h c (command_of c)
next (between is) c =
    cond (same c (post_of is)) (some (closing is (closing_of is)))
    (cond (is_more is) (only c (further_bop (writing_after_all first_writing is)) (in_page (new_page_state (is ++ (Cut ∷ []))))) none)
next (closing is []) c = none
next (closing is (e ∷ es)) c = only c e (closing is es)

-- a command that is cut short: one that may come begins so
unfoldable pub may_begin_as : PageState → List ℕ → PageCommand → Bool
may_begin_as h s d = begins s (in_bytes d) && may_come h d

-- the places across, from -55 to 3,239; the heights, from 0 to 1,000,000
abbrev pub places : ℕ
places = 3295

abbrev pub heights : ℕ
heights = 1000001

-- all that may come, but for eop, which is not cut short, and with one character for all
unfoldable pub may_begin_in : PageState → List ℕ → Bool
may_begin_in h s =
    some_below 120 (λ f. may_begin_as h s (defining f))
    || (some_below 120 (λ f. may_begin_as h s (selecting f))
    || (some_below places (λ k. may_begin_as h s (across (entry_x k -ℤ h.position.x)))
    || (some_below heights (λ k. may_begin_as h s (downward (pos (3 * k) -ℤ h.position.y))) || may_begin_as h s (putting 1))))

unfoldable pub may_begin : State → List ℕ → Bool
may_begin start s = begins s preamble_bytes
may_begin opened s = begins s first_bop
may_begin (in_page h) s = may_begin_in h s
may_begin (between is) s = begins s (post_of is) || is_more is && begins s (further_bop (writing_after_all first_writing is))
may_begin (closing is []) s = false
may_begin (closing is (e ∷ es)) s = begins s e

-- ---- the file

pub data Read : Type 0 where
  gives : List Item → Read
  bad : ℕ → Read

-- at the end of the file
unfoldable pub at_end : State → ℕ → Read
at_end start at = bad at
at_end opened at = bad at
at_end (in_page h) at = bad at
at_end (between is) at = bad at
at_end (closing is []) at = gives is
at_end (closing is (e ∷ es)) at = bad at

-- ---- one command after another

pub data Step : Type 0 where
  -- no file goes on so
  refuse : Step
  -- the file ends inside a command that may come
  short : Step
  -- the state after the command, and the bytes of its parameters
  go : State → ℕ → Step

unfoldable pub whole_step : ℕ → Option State → Step
whole_step n none = refuse
whole_step n (some r) = go r n

-- the command with the opcode op before the bytes ps
unfoldable pub step : State → ℕ → List ℕ → Step
step q op ps =
    cond (leb (parameters op ps) (length ps)) (whole_step (parameters op ps) (next q (op ∷ take (parameters op ps) ps)))
    (cond (may_begin q (op ∷ ps)) short refuse)

-- what a step leads to at a place, where the file ends at `end`; `rest` reads on
unfoldable pub follow : ℕ → ℕ → Step → (State → ℕ → Read) → Read
follow at end refuse rest = bad at
follow at end short rest = bad end
follow at end (go r n) rest = rest r n

-- what is read from a state at a place, after so many bytes that are passed over
unfoldable pub read : State → ℕ → ℕ → List ℕ → Read
read q at n [] = at_end q at
read q at (suc n) (b ∷ bs) = read q (suc at) n bs
read q at zero (b ∷ bs) = follow at (at + suc (length bs)) (step q b bs) (λ r n. read r (suc at) n bs)

abbrev pub read_file : List ℕ → Read
read_file s = read start 0 0 s

unfoldable pub galley_result : Read → Result
galley_result (gives is) = written (galley New is)
galley_result (bad place) = refusal not_ours place

-- 20, 46, 12
unfoldable pub read2_result : List ℕ → ℕ → Result
read2_result dvi room = cond (ltb max_dvi2 (length dvi)) (refusal file_too_long 0) (if_room no_galley_room room (galley_result (read_file dvi)))
