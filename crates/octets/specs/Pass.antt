-- What the contract of a pass cites: of the two passes of an operation the first counts what it would write, the second writes it.
--     bytes_of      the bytes of a result; a refusal has none
--     Roomy        a result that has room
--     Passed       what a pass found, and the buffer after it
--     decided      the outcome of a call, by what the first pass found and the room
use Rattle.std.specs.Prelude.{◌≡◌, Bool, cond, List, [], ℕ, ◌≤◌, ltb, length, Result as ResultOf}
use Rattle.octets.specs.Answer.{Outcome, accepted, refused, outcome_of, Result, refusal, written, outcome}
use Rattle.octets.specs.Write.{put_if}
use Rattle.octets.specs.declared.refusal.Refusal.{Refusal}

abbrev pub bytes_of : Result → List ℕ
bytes_of (refusal number place) = []
bytes_of (written bs) = bs

-- a result that is no refusal, and takes at most so many bytes
pub record Roomy (x : Result) (room : ℕ) : Type 0 where
  pub accepted : x ≡ written (bytes_of x)
  pub enough : length (bytes_of x) ≤ room

-- the answer r has the outcome of the result x; its bytes stand at the start of the buffer, if writing
pub record Passed (x : Result) (w : Bool) (before : List ℕ) (r : ResultOf ℕ Refusal) (later : List ℕ) : Type 0 where
  pub found : outcome_of r ≡ outcome x
  pub buffer : later ≡ put_if w before 0 (bytes_of x)

-- `number`, at the bytes needed, where the room is too little
unfoldable pub decided : ℕ → ℕ → Outcome → Outcome
decided number room (accepted n) = cond (ltb room n) (refused number n) (accepted n)
decided number room (refused k place) = refused k place
