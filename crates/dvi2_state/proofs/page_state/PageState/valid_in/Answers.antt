-- `dvi2_state::page_state::PageState::valid_in` meets its contract: no font, or the test of a character's x.
-- Assumes nothing.
use mathlib.Core.Path.{ap, ◌∙◌}
use mathlib.Core.Bool.{not}
use borrow.Author.Tests.{eq-eqb}
use Rattle.dvi2_state.proofs.Bytes.{no_font, valid_font}
use Rattle.dvi2_state.proofs.page_state.PageState.valid_in.Goals as goal

pub returns-then-self-ne-NO_FONT : goal.returns-then-self-ne-NO_FONT
returns-then-self-ne-NO_FONT c =
    let a = c.args in
    c.valid_x.ensures
    ∙ valid_font a.x.0 a.self.font c.size_index.result c.is_double.result
    c.if-self-ne-NO_FONT.true c.size_index.ensures.0 c.is_double.ensures

pub returns-else-self-ne-NO_FONT : goal.returns-else-self-ne-NO_FONT
returns-else-self-ne-NO_FONT c = ap not (eq-eqb _ _ c.if-self-ne-NO_FONT.false) ∙ no_font c.args.x.0 c.args.self.font c.if-self-ne-NO_FONT.false
