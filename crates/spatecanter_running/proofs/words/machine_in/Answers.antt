-- `spatecanter_running::words::machine_in` meets its contract.
-- Assumes nothing.
use borrow.Author.Tests.{eq-eqb, ne_eqb}
use Rattle.spatecanter_running.proofs.words.machine_in.Goals as goal

pub returns-then-w-eq4 : goal.returns-then-w-eq4
returns-then-w-eq4 c = rw (eq-eqb _ _ c.if-w-eq4.true)

pub returns-else-w-eq4 : goal.returns-else-w-eq4
returns-else-w-eq4 c = rw (ne_eqb _ _ c.if-w-eq4.false)
