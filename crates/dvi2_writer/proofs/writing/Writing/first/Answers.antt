-- `dvi2_writer::writing::Writing::first` meets its contract.
-- Assumes nothing.
use mathlib.Core.Path.{refl}
use Rattle.dvi2_writer.proofs.Writings.{writing_first}
use Rattle.dvi2_writer.proofs.writing.Writing.first.Goals as goal

pub returns : goal.returns
returns c = writing_first _ c.start.ensures c.none.ensures refl refl refl
