-- `dvi2_page::fonts::may_begin_font` meets its contract: the fonts from 64 on are searched.
-- Assumes nothing.
use mathlib.Core.Path.{refl, sym, ◌∙◌}
use borrow.Author.Rules.{rules}
use borrow.Author.Tests.{tests}
use Rattle.std.proofs.lemmas.Iterator.{YieldsList-from_range}
use Rattle.std.proofs.lemmas.Iterator.Search.{any_from_yields_List}
use Rattle.galley_file.specs.Item.{characters_of}
use Rattle.dvi.specs.FontOrNone.{font_or_none}
use Rattle.dvi2_reading.specs.PageReading.{may_choose}
use Rattle.dvi2_state.specs.Page.{stage_of}
use Rattle.dvi2_state.proofs.Searches.{any_below}
use Rattle.dvi2_page.specs.Fonts.{chooses_high}
use Rattle.dvi2_page.proofs.Selects.{low_not, chooses_high_lem}
use Rattle.dvi2_page.proofs.fonts.may_begin_font.Goals as goal

pub returns : goal.returns
returns c =
    let a = c.args in
    λ is k.
    let s = stage_of a.h.stage in
    let cs = characters_of is in
    let o = font_or_none a.h.font in
    any_from_yields_List (may_choose s cs o) _ _ _ c.any.ensures.ran (YieldsList-from_range 64 120 56 refl refl) (λ x b q j. search (rules, tests, k))
    ∙ any_below 64 56 (chooses_high s cs o) _ (λ f l. low_not s cs o f l) (λ f l m. sym (chooses_high_lem s cs o f l))
