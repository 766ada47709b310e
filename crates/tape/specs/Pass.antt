-- What the contracts of the passes cite; nothing here is part of what a call promises.
--     Going     what a pass keeps
--     Passed    what a pass finds of a run
use Rattle.std.specs.Prelude.{◌≡◌, Bool, List, ℕ, ◌*◌, ◌≤◌, length, take, Ok}
use Rattle.octets.specs.Write.{put_if}
use Rattle.galley_file.specs.declared.form.Form.TheVariants.{New}
use Rattle.galley_file.specs.Item.{characters_of, cuts_of}
use Rattle.galley_file.specs.Galley.{fields}
use Rattle.typesetter.specs.declared.machine.State.{State}
use Rattle.tape.specs.declared.Reading.{Reading}
use Rattle.tape.specs.Tape.{max_tape, Run, run}
use Rattle.tape.specs.RunLaws.{so_far}
use Rattle.typesetter.specs.Sound.{Sound}

-- what a pass keeps: the bytes passed so far, run from the first state, reach the present one; the count of characters, the bytes of
-- cuts and the buffer are those of the items that they set
pub record Going (s₀ : State) (at : ℕ) (tape first : List ℕ) (w : Bool) (out : List ℕ) (s : State) (count cuts i : ℕ) : Type 0 where
  pub inside : i ≤ length tape
  pub sound : Sound s
  pub ran : (run s₀ at (take i tape)).ending ≡ Ok s
  pub counted : count ≡ length (characters_of (so_far s₀ at tape i))
  pub cut_bytes : cuts ≡ 3 * cuts_of (so_far s₀ at tape i)
  pub same : length out ≡ length first
  pub wrote : out ≡ put_if w first 0 (fields New (so_far s₀ at tape i))

-- what a pass finds of a run, and the buffer after it
pub record Passed (x : Run) (w : Bool) (before : List ℕ) (r : Reading) (later : List ℕ) : Type 0 where
  pub counted : r.count ≡ length (characters_of x.items)
  pub cut_bytes : r.cuts ≡ 3 * cuts_of x.items
  pub few : r.count ≤ max_tape
  pub short : r.cuts ≤ 3 * max_tape
  pub ended : r.ending ≡ x.ending
  pub buffer : later ≡ put_if w before 0 (fields New x.items)
