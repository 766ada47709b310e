-- What the contracts of the stretches cite; nothing here is part of what a call promises.
--     Ran           the codes up to a place are ordinary characters
--     Room          the fields of every such stretch have room
--     Stretched     what a stretch has read, and put on the sheet
use Rattle.std.specs.Prelude.{◌≡◌, Bool, List, ℕ, ◌+◌, ◌≤◌, ℤ, length, drop}
use Rattle.sheet.specs.Sheet.{Mark, mark_fields}
use Rattle.sheet.specs.Shown.{shows_first}
use Rattle.octets.specs.Write.{Put}
use Rattle.xgp_code.specs.Measure.{in_dots}
use Rattle.xgp.specs.State.{with_x}
use Rattle.xgp.specs.File.{run}
use Rattle.xgp.specs.declared.state.State.{State}
use Rattle.xgp_step.specs.declared.stretch.Stretch.{Stretch}

-- from the state s at offset `from`, the codes before `at` show ms, one field for each byte, and change x alone
pub record Ran (ws : List ℤ) (spacing : ℕ) (file : List ℕ) (s : State) (from at : ℕ) (x : ℤ) (ms : List Mark) : Type 0 where
  pub so_far : run ws spacing from s 0 (drop from file) ≡ shows_first ms (run ws spacing at (with_x s (in_dots x)) 0 (drop at file))
  pub within : at ≤ length file
  pub long : from + length ms ≡ at

-- the fields of every such stretch have room
abbrev pub Room : List ℤ → ℕ → List ℕ → State → ℕ → ℕ → ℕ → Type 0
Room ws spacing file s from to room = (at : ℕ) (x : ℤ) (ms : List Mark) → Ran ws spacing file s from at x ms → to + length (mark_fields ms) + 7 ≤ room

pub record Stretched (ws : List ℤ) (spacing : ℕ) (file : List ℕ) (s : State) (from to : ℕ) (w : Bool) (before later : List ℕ) (r : Stretch) : Type 0 where
  pub marks : List Mark
  pub ran : Ran ws spacing file s from r.next r.x.0 marks
  pub put : Put w before to (mark_fields marks) later r.to
