-- Punching a tape from a galley, for the 8-font machine (document 02, "Punching a tape").
--     items_codes      the codes of items, one after another, and state_after_all the machine after them
--     punched         the tape of a list of items
--     punch_result     what punching a galley gives
--     RoundTrip       reading the punched tape gives exactly the galley
--     Punches         what punching promises, and PunchesNumbers where the numbers are given in an array
use Rattle.std.specs.Prelude.{ℕ, ◌≤◌, ◌≡◌, cond, ltb, length, take}
use mathlib.Core.List.{List, [], ◌∷◌, ◌++◌, foldl}
use Rattle.octets.specs.Answer.{Outcome, accepted, numbers_of, Result, refusal, written, if_room, Gives, punched_too_long, no_tape_room}
use Rattle.octets.specs.Transducer.{transduced}
use Rattle.galley_file.specs.declared.form.Form.TheVariants.{New}
use Rattle.galley_file.specs.declared.item.Item.{Item}
use Rattle.galley_check.specs.Result.{checked_result}
use Rattle.typesetter.specs.declared.machine.State.{State}
use Rattle.tape.specs.Tape.{max_tape, tape_result}
use Rattle.punch_codes.specs.Codes.{start_codes, begun, item_codes, state_after}

-- ---- the tape

abbrev pub items_codes : State → List Item → List ℕ
items_codes s is = transduced item_codes state_after s is

abbrev pub state_after_all : State → List Item → State
state_after_all s is = foldl state_after s is

-- "end with stop"
unfoldable pub punched : List Item → List ℕ
punched is = start_codes ++ (items_codes begun is ++ (0x49 ∷ []))

-- ---- the result

-- 48 where the tape is longer than a tape may be
abbrev pub if_short : List ℕ → Result
if_short tape = cond (ltb max_tape (length tape)) (refusal punched_too_long 0) (written tape)

-- 40 and 41, then 48; 49 last
unfoldable pub punch_result : List ℕ → ℕ → Result
punch_result g room = if_room no_tape_room room (checked_result New (λ is. if_short (punched is)) g)

-- ---- the round trip

-- "reading the punched tape gives exactly the galley": where n bytes are accepted, those bytes of the buffer, read for the 8-font machine into a buffer with room for the galley
abbrev pub RoundTrip : List ℕ → Outcome → List ℕ → Type 0
RoundTrip g o later = (n room : ℕ) → o ≡ accepted n → length g ≤ room → tape_result (take n later) 8 room ≡ written g

-- ---- what punching promises

-- outcome and buffer are the result's, and reading the tape gives the galley
pub record Punches (given : Outcome) (g buffer later : List ℕ) : Type 0 where
  pub gives_tape : Gives given (punch_result g) buffer later
  pub reads_galley : RoundTrip g given later

-- the same where the numbers of this outcome are given in an array
pub record PunchesNumbers (numbers g buffer later : List ℕ) : Type 0 where
  pub given : Outcome
  pub numbers_are : numbers ≡ numbers_of given
  pub punches : Punches given g buffer later
