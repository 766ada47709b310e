-- The code's writing as the format's writing.
--     writing_of     the writing that a writing of the code stands for
--     WritingIs     a writing of the code is this one, and its position is on the page
use Rattle.std.specs.Prelude.{◌≡◌}
use Rattle.dvi.specs.Writer as W
use Rattle.dvi_writer.specs.declared.writing.Writing.{Writing}
use Rattle.dvi_characters.specs.Position.{position_of, OnPage}

unfoldable pub writing_of : Writing → W.Writing
writing_of p = record { position = position_of p.position; page = p.page; bop = p.bop; at = p.at }

pub record WritingIs (p : Writing) (q : W.Writing) : Type 0 where
  pub on_page : OnPage (position_of p.position)
  pub writing_is : writing_of p ≡ q
