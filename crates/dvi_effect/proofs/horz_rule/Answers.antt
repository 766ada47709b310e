-- `dvi_effect::horz_rule` meets its contract: the rule is shown, and the page stays.
-- Assumes nothing.
use mathlib.Core.Path.{ap}
use Rattle.dvi.specs.Page.{marked, effect}
use Rattle.dvi_page.specs.Page.{page_of}
use Rattle.dvi_effect.proofs.horz_rule.Goals as goal

pub returns : goal.returns
unfolding effect
returns c ws l = ap (marked (page_of c.args.p l)) (c.rule_here.ensures l)
