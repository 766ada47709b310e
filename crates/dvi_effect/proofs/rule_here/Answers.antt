-- `dvi_effect::rule_here` meets its contract: the rule's place is the page's.
-- Assumes nothing.
use mathlib.Core.Path.{refl}
use Rattle.dvi.specs.Page.{rule_here}
use Rattle.dvi_effect.proofs.rule_here.Goals as goal

pub returns : goal.returns
unfolding rule_here
returns c l = refl
