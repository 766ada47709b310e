-- `dvi2_close::close::marked` meets its contract: the definition, if the font is marked.
-- Assumes nothing.
use mathlib.Core.Path.{sym, ap, ◌∙◌}
use mathlib.Core.Bool.{Bool, cond}
use borrow.Author.Rules.{rules}
use Rattle.std.specs.Prelude.{Ok}
use Rattle.dvi2.specs.Writer.{definition}
use Rattle.dvi2_close.specs.Reading.{expected}
use Rattle.dvi2_close.proofs.close.marked.Goals as goal

pub expect-requires : goal.expect-requires
expect-requires c = (c.requires.0, search rules)

pub returns-then-has_font : goal.returns-then-has_font
returns-then-has_font c =
    let a = c.args in
    let s = a.dvi.now in
    c.expect.ensures
    ∙ ap (expected s a.at) c.definition.ensures
    ∙ ap (λ (t : Bool). cond t (expected s a.at (definition a.f)) (Ok a.at)) (sym c.if-has_font.true ∙ c.has_font.ensures)

pub returns-else-has_font : goal.returns-else-has_font
returns-else-has_font c =
    let a = c.args in
    let s = a.dvi.now in
    ap (λ (t : Bool). cond t (expected s a.at (definition a.f)) (Ok a.at)) (sym c.if-has_font.false ∙ c.has_font.ensures)
