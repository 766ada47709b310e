-- `dvi_effect::vert_rule` meets its contract: the rule is shown, and the page goes on by its width.
-- Assumes nothing.
use mathlib.Core.Path.{ap, ◌∙◌}
use Rattle.sheet.specs.Sheet.{Mark}
use Rattle.dvi.specs.Page.{right_by, show_and_go_to, effect}
use Rattle.dvi_page.specs.Page.{page_of}
use Rattle.dvi_effect.proofs.vert_rule.Goals as goal

pub returns : goal.returns
unfolding effect
returns c ws l =
    let a = c.args in
    let p = page_of a.p l in
    c.show_right.ensures l ∙ ap (λ (k : Mark). show_and_go_to p k (right_by a.w.0 p.numbers)) (c.rule_here.ensures l)
