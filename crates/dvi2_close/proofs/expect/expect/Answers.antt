-- `dvi2_close::expect::expect` meets its contract: the definition by cases, the case told by the comparison.
-- Assumes nothing.
use mathlib.Core.Path.{sym, ap, ◌∙◌}
use Rattle.std.specs.Prelude.{Err}
use Rattle.dvi2_close.specs.Reading.{by_match, expected}
use Rattle.dvi2_close.proofs.expect.expect.Goals as goal

pub returns-in-Ok : goal.returns-in-Ok
unfolding expected
returns-in-Ok c =
    let a = c.args in
    let s = a.dvi.now in
    ap (by_match s a.at a.e.now) (sym c.in-Ok.is ∙ c.compare.ensures)

pub returns-in-Err-Short : goal.returns-in-Err-Short
unfolding expected
returns-in-Err-Short c =
    let a = c.args in
    let s = a.dvi.now in
    ap (by_match s a.at a.e.now) (sym (c.in-Err-Short.is ∙ ap Err c.in-Err-Short.field-0-is) ∙ c.compare.ensures)

pub returns-in-Err-Bad : goal.returns-in-Err-Bad
unfolding expected
returns-in-Err-Bad c =
    let a = c.args in
    let s = a.dvi.now in
    ap (by_match s a.at a.e.now) (sym (c.in-Err-Bad.is ∙ ap Err c.in-Err-Bad.field-0-is) ∙ c.compare.ensures)
