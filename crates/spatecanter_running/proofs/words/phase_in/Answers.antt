-- `spatecanter_running::words::phase_in` meets its contract: the tests are those of `phase_in`.
-- Assumes nothing.
use borrow.Author.Tests.{eq-eqb, ne_eqb}
use Rattle.spatecanter_running.proofs.words.phase_in.Goals as goal

pub returns-then-w-eq1 : goal.returns-then-w-eq1
returns-then-w-eq1 c = rw (eq-eqb _ _ c.if-w-eq1.true)

pub returns-then-w-eq2 : goal.returns-then-w-eq2
returns-then-w-eq2 c = rw (ne_eqb _ _ c.if-w-eq1.false, eq-eqb _ _ c.if-w-eq2.true)

pub returns-else-w-eq2 : goal.returns-else-w-eq2
returns-else-w-eq2 c = rw (ne_eqb _ _ c.if-w-eq1.false, ne_eqb _ _ c.if-w-eq2.false)
