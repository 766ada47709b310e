-- What a pass over a file tells, and leaves in the buffer.
use Rattle.std.specs.Prelude.{◌≡◌, List, ℕ, Result, Ok, Err}
use Rattle.octets.specs.PutIfRoom.{PutIfRoom}
use Rattle.galley_file.specs.declared.form.Form.TheVariants.{New}
use Rattle.galley_file.specs.declared.item.Item.{Item}
use Rattle.galley_file.specs.Galley.{galley}
use Rattle.dvi2_reading.specs.Reading.{gives, bad, read_file}
use Rattle.dvi2_close.specs.declared.expect.NotOurs.{NotOurs}

pub record Given (s before later : List ℕ) (n : ℕ) : Type 0 where
  pub items : List Item
  pub read_as : read_file s ≡ gives items
  pub puts : PutIfRoom before 0 (galley New items) later n

abbrev pub Passed : List ℕ → List ℕ → List ℕ → Result ℕ NotOurs → Type 0
Passed s before later (Ok n) = Given s before later n
Passed s before later (Err w) = read_file s ≡ bad w.place
