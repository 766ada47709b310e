-- `dvi2_close::expect::head` meets its contract: the preamble, and then the first bop.
-- Assumes nothing.
use mathlib.Core.Path.{sym, subst, ◌∙◌}
use native.Mathlib.Omega.{arith}
use borrow.Author.Rules.{rules}
use Rattle.dvi2_reading.specs.Reading.{first_bop}
use Rattle.dvi2_close.specs.Reading.{ReadsTo}
use Rattle.dvi2_close.proofs.Expected.{expect_inside, inside_to, handed_on, head_reads_to, head_fault}
use Rattle.dvi2_close.proofs.expect.head.Goals as goal

pub expect-requires-2 : goal.expect-requires-2
expect-requires-2 c = (inside_to (sym c.expect.ensures ∙ c.in_ok-at.was) (expect_inside _ _ _ (omega arith)), search rules)

pub returns-in_err-at : goal.returns-in_err-at
returns-in_err-at c = subst (ReadsTo _ _) (sym (handed_on _ c.from_residual.ensures.1)) (head_fault _ _ _ c.preamble.ensures c.expect.ensures _ c.in_err-at.was)

pub returns : goal.returns
unfolding first_bop
returns c = head_reads_to _ _ _ c.preamble.ensures c.expect.ensures _ c.in_ok-at.was _ c.bop.ensures _ c.expect-2.ensures
