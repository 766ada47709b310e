-- How a reader stands in a file: the bytes before a place lead to a state, and what is read of the whole file is what is read from there.
--     Standing     at a place of a file, in a state
use Rattle.std.specs.Prelude.{◌≡◌, List, ℕ, ◌≤◌, length, take, drop}
use Rattle.dvi2_reading.specs.Reading.{State, read, read_file}
use Rattle.dvi2_reading.specs.Reached.{Reached}

pub record Standing (s : List ℕ) (q : State) (at : ℕ) : Type 0 where
  pub inside : at ≤ length s
  pub reads : read_file s ≡ read q at 0 (drop at s)
  pub reached : Reached q (take at s)
