-- `dvi_page::page::Page::right` meets its contract: x moves, and y stays in 32 bits by itself.
-- Assumes nothing.
use mathlib.Core.Path.{◌∙◌}
use borrow.Author.Rules.{rules}
use mir.Syntax.{w32}
use mir.Val.{SFits}
use Rattle.integers.specs.Bits.{plain}
use Rattle.dvi.specs.Page.{moved, right_by, go_to}
use Rattle.dvi_page.specs.Stack.{six_numbers}
use Rattle.dvi_page.specs.Page.{page_of}
use Rattle.dvi_page.proofs.Moves.{right_inside, goes, stops, none_of}
use Rattle.dvi_page.proofs.page.Page.right.Goals as goal
use Rattle.dvi_page.proofs.page.Page.right.Goals.{After-struct_told-2-1}

-- x, y and the move, in 32 bits
module _ (c : After-struct_told-2-1) where
  x_fits : SFits w32 c.args.n.x.0
  x_fits = search rules

  y_fits : SFits w32 c.args.n.y.0
  y_fits = search rules

  m-fits : SFits w32 c.args.m.0
  m-fits = search rules

pub returns : goal.returns
unfolding go_to right_by
returns c l =
    let a = c.args in
    let m = a.m.0 in
    let n = six_numbers a.n in
    goes moved (page_of a.self l) (right_by m n) c.sum.ensures
    (x_fits (goal.at.returns c).After-struct_told-2-1) (m-fits (goal.at.returns c).After-struct_told-2-1) (right_inside m n (y_fits (goal.at.returns c).After-struct_told-2-1))
    c.in-Some.is (λ e. c.with_numbers.ensures l ∙ rw (plain {w = w32} {z = c.in-Some.to} (search rules), e))

pub returns-in_default : goal.returns-in_default
unfolding go_to
returns-in_default c l =
    let a = c.args in
    let m = a.m.0 in
    let n = six_numbers a.n in
    stops moved (page_of a.self l) (right_by m n) c.sum.ensures
    (x_fits (goal.at.returns-in_default c).After-struct_told-2-1) (m-fits (goal.at.returns-in_default c).After-struct_told-2-1) (right_inside m n (y_fits (goal.at.returns-in_default c).After-struct_told-2-1))
    (none_of c.sum.result c.in_default.not-Some)
