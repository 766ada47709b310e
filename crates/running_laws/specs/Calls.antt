-- Calls on a running tape, one after another (document 02, "From the tape drive").
--     Call            a start, a piece or the close, and given what it gives
--     tape_after       the running tape after some calls, and tape_given after one
--     results         what they give, one after another
--     output          the bytes that they write, joined, and bytes_given those of one
--     MadeByCalls     a running tape that these calls alone have made
--     without_room     the calls that were not refused for room
--     Piece           some bytes of a tape and the room lent with them; whole_tape the tape that pieces are cut from
--     RoomFor         there is room for a piece, and RoomForEach for each of some
--     calls_for        a start, the pieces and the close
use Rattle.std.specs.Prelude.{ℕ, ◌+◌, ◌≤◌, ◌≡◌, Bool, false, cond, eqb, length}
use mathlib.Core.List.{List, [], ◌∷◌, ◌++◌, foldl}
use Rattle.std.specs.Prelude.{Ok}
use Rattle.octets.specs.Answer.{Result, refusal, written, no_galley_room}
use Rattle.octets.specs.Pass.{bytes_of}
use Rattle.octets.specs.Transducer.{transduced}
use Rattle.galley_file.specs.declared.form.Form.TheVariants.{New}
use Rattle.galley_file.specs.Galley.{fields}
use Rattle.typesetter.specs.declared.code.Machine.{Machine}
use Rattle.typesetter.specs.declared.machine.State.{State}
use Rattle.typesetter.specs.Machine.{start}
use Rattle.tape.specs.Tape.{run}
use Rattle.tape.specs.TapeLaws.{items_on}
use Rattle.running.specs.declared.Running.{Running}
use Rattle.running.specs.Running.{Replied, new_tape, start_of, feed_of, close_of}

pub data Call : Type 0 where
  starting : ℕ → Call  -- on the machine of so many fonts
  piece : List ℕ → ℕ → Call  -- some bytes, and a buffer of so many
  closing : ℕ → Call  -- a buffer of so many bytes

abbrev pub given : Running → Call → Replied
given r (starting machine) = start_of r machine
given r (piece bs room) = feed_of r bs room
given r (closing room) = close_of r room

abbrev pub tape_given : Running → Call → Running
tape_given r c = (given r c).tape

abbrev pub tape_after : Running → List Call → Running
tape_after r cs = foldl tape_given r cs

unfoldable pub results : Running → List Call → List Result
results r [] = []
results r (c ∷ cs) = (given r c).result ∷ results (given r c).tape cs

abbrev pub bytes_given : Running → Call → List ℕ
bytes_given r c = bytes_of (given r c).result

abbrev pub output : Running → List Call → List ℕ
output r cs = transduced bytes_given tape_given r cs

-- "one that these calls alone have made"
pub data MadeByCalls : Running → Type 0 where
  new : MadeByCalls new_tape
  by_call : {r : Running} → MadeByCalls r → (c : Call) → MadeByCalls (given r c).tape

-- ---- refusals for room

abbrev pub is_room : Result → Bool
is_room (refusal n place) = eqb n no_galley_room
is_room (written bs) = false

unfoldable pub without_room : Running → List Call → List Call
without_room r [] = []
without_room r (c ∷ cs) = cond (is_room (given r c).result) (without_room (given r c).tape cs) (c ∷ without_room (given r c).tape cs)

unfoldable pub without_rooms : List Result → List Result
without_rooms [] = []
without_rooms (x ∷ xs) = cond (is_room x) (without_rooms xs) (x ∷ without_rooms xs)

-- ---- a tape, cut at will

pub record Piece : Type 0 where
  pub codes : List ℕ
  pub room : ℕ

unfoldable pub whole_tape : List Piece → List ℕ
whole_tape [] = []
whole_tape (p ∷ ps) = p.codes ++ whole_tape ps

unfoldable pub pieces : List Piece → List Call
pieces [] = []
pieces (p ∷ ps) = piece p.codes p.room ∷ pieces ps

unfoldable pub calls_for : ℕ → List Piece → ℕ → List Call
calls_for machine ps room = starting machine ∷ (pieces ps ++ (closing room ∷ []))

-- "room for each piece", after the bytes xs: for the fields of what it sets on this machine, where it has no fault
abbrev pub RoomFor : Machine → List ℕ → List ℕ → ℕ → Type 0
RoomFor kind xs p room =
    (t : State) → (run (start kind) 0 (xs ++ p)).ending ≡ Ok t → length (fields New (items_on kind (xs ++ p))) ≤ length (fields New (items_on kind xs)) + room

pub data RoomForEach (kind : Machine) : List ℕ → List Piece → Type 0 where
  none : {xs : List ℕ} → RoomForEach kind xs []
  more : {xs : List ℕ} {p : Piece} {ps : List Piece} → RoomFor kind xs p.codes p.room → RoomForEach kind (xs ++ p.codes) ps → RoomForEach kind xs (p ∷ ps)
