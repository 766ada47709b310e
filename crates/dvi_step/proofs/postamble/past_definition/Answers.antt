-- `dvi_step::postamble::past_definition` meets its contract: eight bytes, the character before the name, the name.
-- Assumes nothing.
use mathlib.Core.Path.{◌∙◌}
use native.Mathlib.Omega.{arith}
use lib.ListN.{length}
use Rattle.dvi_step.proofs.Postambles.{quote_short, quote_past, within_more}
use Rattle.dvi_step.proofs.postamble.past_definition.Goals as goal

pub returns-then-s-i-lt9 : goal.returns-then-s-i-lt9
returns-then-s-i-lt9 c =
    let a = c.args in
    record { goes_on = λ pst. quote_short a.s.now a.i pst c.if-s-i-lt9.true; within = tt }

pub returns : goal.returns
returns c =
    let a = c.args in
    let p = c.past_name in
    record {
      goes_on = λ pst. quote_past a.s.now a.i pst (omega arith) ∙ p.ensures.goes_on pst;
      within = within_more a.i (length a.s.now) p.result p.ensures.within;
    }
