-- `dvi2_page::fonts::select_low` meets its contract.
-- Assumes nothing.
use mathlib.Core.Path.{◌≡◌, sym, ap, ◌∙◌}
use Prim.Native.Nat.{◌-◌}
use native.Mathlib.Omega.{arith}
use lib.ListN.{get_or}
use Rattle.dvi2_reading.specs.Reading.{page_state_after, with_font, in_page, go}
use Rattle.dvi2_reading.specs.PageReading as Page
use Rattle.dvi2_state.specs.declared.page_state.PageState.{PageState}
use Rattle.dvi2_state.specs.Page.{page_state_of, page_position}
use Rattle.dvi.specs.FontOrNone.{font_some}
use Rattle.dvi2_page.proofs.Selects.{s_low_go, s_low_bad}
use Rattle.dvi2_page.proofs.fonts.select_low.Goals as goal

pub returns : goal.returns
unfolding page_state_after with_font
returns c =
    let a = c.args in
    let p = c.requires in
    let f = get_or a.s.now a.at 0 - 171 in
    let n : f ≡ 255 → ⊥ = λ e. omega arith in
    λ is l k.
    ap (λ (g : PageState). go (in_page (page_state_of is g)) 0) c.with_font.ensures
    ∙ (λ i. go (in_page (record { items = is; stage = Page.chosen; position = record { font = font_some f n i; x = a.h.x.0; y = (page_position a.h).y } })) 0)
    ∙ s_low_go a.s.now a.at a.h p.1 is l a.used.low a.used.high k p.0.1.0 p.0.1.1 (sym (c.may_choose.ensures is k) ∙ c.if-not-may_choose.false)

pub returns-then-not-may_choose : goal.returns-then-not-may_choose
returns-then-not-may_choose c =
    let a = c.args in
    let p = c.requires in
    λ is l k. s_low_bad a.s.now a.at a.h p.1 is l a.used.low a.used.high k p.0.1.0 p.0.1.1 (sym (c.may_choose.ensures is k) ∙ c.if-not-may_choose.true)
