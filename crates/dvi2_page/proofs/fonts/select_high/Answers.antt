-- `dvi2_page::fonts::select_high` meets its contract.
-- Assumes nothing.
use mathlib.Core.Path.{◌≡◌, sym, ap, ◌∙◌}
use Prim.Native.Nat.{◌+◌}
use native.Mathlib.Omega.{arith}
use lib.ListN.{get_or}
use Rattle.dvi2_reading.specs.Reading.{page_state_after, with_font, in_page, go}
use Rattle.dvi2_reading.specs.PageReading as Page
use Rattle.dvi2_state.specs.declared.page_state.PageState.{PageState}
use Rattle.dvi2_state.specs.Page.{stage_of, page_state_of, page_position}
use Rattle.dvi.specs.FontOrNone.{font_some}
use Rattle.dvi2_page.proofs.Marks.{choose_big}
use Rattle.dvi2_state.proofs.Searches.{no_truth}
use Rattle.dvi2_page.proofs.Selects.{s_short, s_none, s_high_bad, s_high_go}
use Rattle.dvi2_page.proofs.fonts.select_high.Goals as goal
use Rattle.dvi2_page.proofs.fonts.select_high.Goals.{then-f-lt-FNTNUMS-via-then-f-lt-FNTNUMS, then-f-lt-FNTNUMS-via-else-f-lt-FNTNUMS+then-not-may_choose}

pub returns-then-may_begin_font : goal.returns-then-may_begin_font
returns-then-may_begin_font c =
    let a = c.args in
    let p = c.requires in
    λ is l k. s_short a.s.now a.at a.h p.1 is l a.used.low a.used.high k p.0.1 c.if-s-at-lt2.true (sym (c.may_begin_font.ensures is k) ∙ c.if-may_begin_font.true)

pub returns-else-may_begin_font : goal.returns-else-may_begin_font
returns-else-may_begin_font c =
    let a = c.args in
    let p = c.requires in
    λ is l k. s_none a.s.now a.at a.h p.1 is l a.used.low a.used.high k p.0.1 c.if-s-at-lt2.true (sym (c.may_begin_font.ensures is k) ∙ c.if-may_begin_font.false)

pub returns-then-f-lt-FNTNUMS : goal.returns-then-f-lt-FNTNUMS
returns-then-f-lt-FNTNUMS c =
    let a = c.args in
    let p = c.requires in
    λ is l k.
    s_high_bad a.s.now a.at a.h p.1 is l a.used.low a.used.high k p.0.1 (omega (arith, c.if-s-at-lt2.false))
    (λ m v.
    elim c.then-f-lt-FNTNUMS.branch [
      | then-f-lt-FNTNUMS-via-then-f-lt-FNTNUMS b ↦ omega (arith, b.if-f-lt-FNTNUMS.true)
      | then-f-lt-FNTNUMS-via-else-f-lt-FNTNUMS+then-not-may_choose b ↦ no_truth _ v (sym (b.may_choose.ensures is k) ∙ b.if-not-may_choose.true)
    ])

pub returns : goal.returns
unfolding page_state_after with_font
returns c =
    let a = c.args in
    let p = c.requires in
    let f = get_or a.s.now (a.at + 1) 0 in
    λ is l k.
    let v = sym (c.may_choose.ensures is k) ∙ c.if-not-may_choose.false in
    let n : f ≡ 255 → ⊥ = λ e. no_truth _ v (sym (choose_big a.h.font f a.used.low a.used.high is k (stage_of a.h.stage) (omega arith) p.1.font_valid)) in
    ap (λ (g : PageState). go (in_page (page_state_of is g)) 1) c.with_font.ensures
    ∙ (λ i. go (in_page (record { items = is; stage = Page.chosen; position = record { font = font_some f n i; x = a.h.x.0; y = (page_position a.h).y } })) 1)
    ∙ s_high_go a.s.now a.at a.h p.1 is l a.used.low a.used.high k p.0.1 (omega (arith, c.if-s-at-lt2.false)) (omega (arith, c.if-f-lt-FNTNUMS.false)) v
