-- The running tape (document 02, "From the tape drive" and "Extents at a glance"): what each call gives, and the running tape that it leaves, for every value of the struct.
--     Replied       what a call gives: the running tape after it, and its result
--     refusing      a refusal that leaves the running tape as it was, and failing one that it keeps
--     putting       bytes for a buffer of so many: room comes last
--     is_sound       an open running tape that a call can go on with
--     new_tape       the running tape before any start
--     start_of       a start on the machine of so many fonts
--     feed_of        a piece, with a buffer of so many bytes
--     close_of       the close, with a buffer of so many bytes
--     Leaves        what a call promises: it gives the result of its reply, and leaves its running tape
use Rattle.std.specs.Prelude.{ℕ, ◌+◌, ◌≡◌, Bool, cond, ◌&&◌, List, [], ltb, leb, length, Result as ResultOf, Ok, Err}
use Rattle.octets.specs.Answer.{Outcome, Result, refusal, written, Gives, tape_too_long, after_cut, no_stop, no_galley_room, not_started, number_in}
use Rattle.octets.specs.declared.refusal.Reason.{Reason}
use Rattle.octets.specs.Field.{end_field}
use Rattle.measure.specs.Place.{carriage_end, height_end, within}
use Rattle.galley_file.specs.declared.form.Form.TheVariants.{New}
use Rattle.galley_file.specs.declared.item.Item.{Item}
use Rattle.galley_file.specs.Item.{characters_of}
use Rattle.galley_file.specs.Galley.{fields}
use Rattle.extents.specs.declared.Extents.{Extents}
use Rattle.extents.specs.Extents.{no_extents, with_characters}
use Rattle.typesetter.specs.declared.code.Machine.{Machine}
use Rattle.typesetter.specs.declared.code.Machine.TheVariants.{Eight}
use Rattle.typesetter.specs.declared.machine.State.{State}
use Rattle.typesetter.specs.Machine.{start}
use Rattle.typesetter.specs.Code.{machine_of}
use Rattle.tape.specs.Tape.{Ending, max_tape, run}
use Rattle.running.specs.declared.Phase.{Phase}
use Rattle.running.specs.declared.Phase.TheVariants.{AtRest, Open, Failed}
use Rattle.running.specs.declared.Running.{Running}

pub record Replied : Type 0 where
  pub tape : Running
  pub result : Result

abbrev pub refusing : Running → ℕ → ℕ → Replied
refusing r n place = record { tape = r; result = refusal n place }

-- "After any other refusal of a piece or closing the running tape repeats that refusal and place"
abbrev pub failed : Running → ℕ → ℕ → Running
failed r n place = record { phase = Failed n place; state = r.state; total = r.total; count = r.count; extents = r.extents }

abbrev pub failing : Running → ℕ → ℕ → Replied
failing r n place = record { tape = failed r n place; result = refusal n place }

-- "A piece or closing refused for room changes neither tape nor buffer"; else the bytes are written
abbrev pub putting : Running → Running → List ℕ → ℕ → Replied
putting r next bs room = cond (ltb room (length bs)) (refusing r no_galley_room (length bs)) (record { tape = next; result = written bs })

-- what every open running tape is that the calls have made; an open one that is not so is taken as never started
unfoldable pub is_sound : Running → Bool
is_sound r = leb r.total max_tape && leb r.count r.total && within carriage_end r.state.carriage.0 && within height_end r.state.height.0

-- 13 before any start or after an accepted closing; then the refusal that is repeated
abbrev pub in_phase : Running → Phase → Replied → Replied
in_phase r AtRest x = refusing r not_started 0
in_phase r (Failed n place) x = refusing r n place
in_phase r Open x = x

-- ---- the start

abbrev pub new_tape : Running
new_tape = record { phase = AtRest; state = start Eight; total = 0; count = 0; extents = no_extents }

abbrev pub begun : Machine → Extents → Running
begun machine e = record { phase = Open; state = start machine; total = 0; count = 0; extents = e }

-- "starting anew clears them"
abbrev pub fresh : Machine → Running
fresh machine = begun machine no_extents

-- "A start with a wrong machine gets 50 and changes nothing"
abbrev pub start_on : Running → ResultOf Machine Reason → Replied
start_on r (Ok machine) = record { tape = fresh machine; result = written [] }
start_on r (Err reason) = refusing r (number_in reason) 0

unfoldable pub start_of : Running → ℕ → Replied
start_of r machine = start_on r (machine_of machine)

-- ---- a piece

-- after n bytes more that reached the state t and set these items
abbrev pub grown : Running → State → ℕ → List Item → Running
grown r t n is = record { phase = Open; state = t; total = r.total + n; count = r.count + length (characters_of is); extents = with_characters r.extents (characters_of is) }

-- the tape's faults, at offsets from its start; 12 last, its place the bytes needed for the piece
abbrev pub piece_ends : Running → ℕ → List Item → Ending → ℕ → Replied
piece_ends r n is (Ok t) room = putting r (grown r t n is) (fields New is) room
piece_ends r n is (Err q) room = failing r (number_in q.reason) q.place

abbrev pub feed_within : Running → List ℕ → ℕ → Replied
feed_within r piece = piece_ends r (length piece) (run r.state r.total piece).items (run r.state r.total piece).ending

-- 1 as soon as the total passes the limit
unfoldable pub feed_open : Running → List ℕ → ℕ → Replied
feed_open r piece room =
    cond (is_sound r)
    (cond (ltb max_tape (r.total + length piece)) (failing r tape_too_long 0) (feed_within r piece room))
    (refusing r not_started 0)

unfoldable pub feed_of : Running → List ℕ → ℕ → Replied
feed_of r piece room = in_phase r r.phase (feed_open r piece room)

-- ---- the close

abbrev pub at_rest_of : Running → Running
at_rest_of r = record { phase = AtRest; state = r.state; total = r.total; count = r.count; extents = r.extents }

-- 10 after a cut, 9 without stop, at the total; 12 last, at 7; "closing writes End"
unfoldable pub close_open : Running → ℕ → Replied
close_open r room =
    cond (is_sound r)
    (cond r.state.cut (failing r after_cut r.total)
    (cond r.state.stopped (putting r (at_rest_of r) (end_field r.count) room) (failing r no_stop r.total)))
    (refusing r not_started 0)

unfoldable pub close_of : Running → ℕ → Replied
close_of r room = in_phase r r.phase (close_open r room)

-- ---- what a call promises

-- the room is the length of the lent buffer
pub record Leaves (given : Outcome) (left : Running) (reply : ℕ → Replied) (buffer later : List ℕ) : Type 0 where
  pub gives : Gives given (λ (room : ℕ). (reply room).result) buffer later
  pub leaves : left ≡ (reply (length buffer)).tape
