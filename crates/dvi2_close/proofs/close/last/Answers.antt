-- `dvi2_close::close::last` meets its contract: nothing may follow the bytes 223.
-- Assumes nothing.
use mathlib.Core.List.{[]}
use Rattle.dvi2_reading.specs.Reading.{closing}
use Rattle.dvi2_close.proofs.Expected.{reads_to_standing, reads_to_fault, ended_fault}
use Rattle.dvi2_close.proofs.Closes.{closed_more, closed_end}
use Rattle.dvi2_close.proofs.close.last.Goals as goal

pub returns-in_err-to : goal.returns-in_err-to
returns-in_err-to c = λ is k. ended_fault _ is _ c.from_residual.ensures.1 (reads_to_fault _ (closing is []) c.in_err-to.was (c.fillers.ensures.1 is k))

pub returns-then-to-dvi : goal.returns-then-to-dvi
returns-then-to-dvi c = λ is k. closed_more _ is _ (reads_to_standing c.in_ok-to.was (c.fillers.ensures.1 is k)) c.if-to-dvi.true

pub returns : goal.returns
returns c = λ is k. closed_end _ is _ (reads_to_standing c.in_ok-to.was (c.fillers.ensures.1 is k)) c.if-to-dvi.false
