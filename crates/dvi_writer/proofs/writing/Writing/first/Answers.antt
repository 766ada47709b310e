-- `dvi_writer::writing::Writing::first` meets its contract: the position is that at a page's start.
-- Assumes nothing.
use mathlib.Core.Path.{ap}
use Rattle.dvi.specs.Writer as W
use Rattle.dvi_writer.specs.Writing.{writing_of}
use Rattle.dvi_writer.proofs.writing.Writing.first.Goals as goal

pub returns : goal.returns
unfolding writing_of W.first_writing
returns c =
    let n = c.start.ensures in
    record { on_page = n.on_page; writing_is = ap (λ (p : W.Position). record { position = p; page = 1; bop = 0; at = 9 }) n.position_is }
