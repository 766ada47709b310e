-- What a DVI file of identification 2 shows, from DVItype's commands alone (document 02, "The second edition of DVI"): its pages in file order, each with its
-- number, and on each the characters that are put, with font and place, in thirds of an rsu.
--
-- Not every list of bytes shows something. It is `none` where DVItype does not say what is shown: an opcode that is undefined or not allowed at its place, a
-- command cut short, another identification or unit, a put in no font, a font that is not defined, a pop from an empty stack, an eop with entries left, an
-- end before post. It is `none` too where a command makes a mark and is no put, so that `some` says that none does; a set, moreover, moves by a width that
-- stands in no DVI file. What follows post makes no mark.
--     max_dvi2        the longest file that a reader takes
--     is_unit         the unit is 1/432 inch
--     preamble       the file starts with a preamble of identification 2 and this unit
--     Step           what a command leads to
--     step           the step of the command with this opcode, before these bytes
--     run            what the rest of a file shows
--     show_dvi2       what a file shows
use Rattle.std.specs.Prelude.{ℕ, zero, suc, ◌+◌, ◌*◌, Bool, cond, ◌&&◌, ◌||◌, List, [], ◌∷◌, ◌++◌, ltb, leb, eqb, ℤ, length, get_or, take}
use Rattle.std.proofs.Math.Option.{Option, none, some}
use Rattle.octets.specs.Octets.{signed, nat_at}
use Rattle.sheet.specs.Sheet.{Mark, page_mark}
use Rattle.dvi.specs.Page.{Page, new_page}
use Rattle.dvi2.specs.Command.{NOP, BOP, FNTDEF1, PRE, POST, Decoded, no_command, command, decode}
use Rattle.dvi2.specs.Page.{State, between, inside, Effect, unknown, leads, effect}

abbrev pub max_dvi2 : ℕ
max_dvi2 = 67108864

-- ---- the preamble

-- a unit is num mag / (1,000 den) of 10⁻⁷ metres, and 1/432 inch is 254,000/432 of them
unfoldable pub is_unit : ℕ → ℕ → ℕ → Bool
is_unit num den mag = ltb 0 den && eqb (num * mag * 432) (254000 * den * 1000)

-- pre i[1] num[4] den[4] mag[4] k[1] x[k], with i = 2
unfoldable pub preamble : List ℕ → Bool
preamble s = leb 15 (length s) && eqb (get_or s 0 0) PRE && eqb (get_or s 1 0) 2 && is_unit (nat_at 4 2 s) (nat_at 4 6 s) (nat_at 4 10 s)

-- ---- one command

pub data Step : Type 0 where
  -- the file shows nothing
  stuck : Step
  -- the state after the command, what it shows, and the number of its parameters' bytes
  go_on : State → List Mark → ℕ → Step
  -- the pages end
  finish : Step

unfoldable pub after_effect : ℕ → Effect → Step
after_effect n unknown = stuck
after_effect n (leads q ms) = go_on q ms n

unfoldable pub in_page : List ℤ → Page → Decoded → Step
in_page fs p no_command = stuck
in_page fs p (command c n) = after_effect n (effect fs p c)

-- bop c0[4] .. c9[4] p[4]: the page with number c0
unfoldable pub begin_page : List ℤ → List ℕ → Step
begin_page fs ps = cond (leb 44 (length ps)) (go_on (inside fs new_page) (page_mark (signed (take 4 ps)) ∷ []) 44) stuck

-- between pages nop and fnt_def do what they do inside one
unfoldable pub outside : Step → Step
outside stuck = stuck
outside (go_on (between fs) ms n) = go_on (between fs) ms n
outside (go_on (inside fs p) ms n) = go_on (between fs) ms n
outside finish = finish

-- bop; post; nop and fnt_def; and nothing else
unfoldable pub between_pages : List ℤ → ℕ → List ℕ → Step
between_pages fs op ps =
    cond (eqb op BOP) (begin_page fs ps)
    (cond (eqb op POST) finish
    (cond (eqb op NOP || leb FNTDEF1 op && ltb op PRE) (outside (in_page fs new_page (decode op ps))) stuck))

unfoldable pub step : State → ℕ → List ℕ → Step
step (between fs) op ps = between_pages fs op ps
step (inside fs p) op ps = in_page fs p (decode op ps)

-- ---- the file

unfoldable pub shows_first : List Mark → Option (List Mark) → Option (List Mark)
shows_first ms none = none
shows_first ms (some ns) = some (ms ++ ns)

-- what a step shows, with what the rest shows
unfoldable pub follow : Step → (State → ℕ → Option (List Mark)) → Option (List Mark)
follow stuck rest = none
follow (go_on q ms n) rest = shows_first ms (rest q n)
follow finish rest = some []

-- the rest of the file, after n bytes that are passed over; it does not end before post
unfoldable pub run : State → ℕ → List ℕ → Option (List Mark)
run q n [] = none
run q (suc n) (b ∷ bs) = run q n bs
run q zero (b ∷ bs) = follow (step q b bs) (λ r n. run r n bs)

-- the preamble with its comment, and the rest
unfoldable pub show_dvi2 : List ℕ → Option (List Mark)
show_dvi2 dvi = cond (preamble dvi) (run (between []) (15 + get_or dvi 14 0) dvi) none
