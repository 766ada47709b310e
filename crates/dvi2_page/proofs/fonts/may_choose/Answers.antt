-- `dvi2_page::fonts::may_choose` meets its contract: the tests are those of `may_choose`, with the marks for `uses`.
-- Assumes nothing.
use mathlib.Core.Path.{sym, ap, ◌∙◌}
use mathlib.Core.Bool.{not}
use native.Mathlib.Omega.{arith}
use borrow.Author.Tests.{eq-eqb}
use Rattle.galley_file.specs.Item.{characters_of}
use Rattle.dvi2_reading.specs.PageReading.{may_choose}
use Rattle.dvi2_state.specs.declared.page_state.Stage.{Stage}
use Rattle.dvi.specs.FontOrNone.{font_or_none}
use Rattle.dvi2_state.specs.Page.{stage_of}
use Rattle.dvi2_page.proofs.Marks.{choose_big, choose_same, choose_ready, choose_named}
use Rattle.dvi2_page.proofs.fonts.may_choose.Goals as goal

pub returns-then-f-ge-FONTS : goal.returns-then-f-ge-FONTS
returns-then-f-ge-FONTS c =
    let a = c.args in
    λ is k.
    choose_big a.h.font a.f a.used.low a.used.high is k (stage_of a.h.stage) c.if-f-ge-FONTS.true c.requires

pub returns-then-f-h : goal.returns-then-f-h
returns-then-f-h c =
    let a = c.args in
    λ is k.
    c.has_font.ensures ∙ choose_ready a.h.font a.f a.used.low a.used.high is k (omega (arith, c.if-f-ge-FONTS.false)) c.if-f-h.true ∙ ap (λ (s : Stage). may_choose (stage_of s) (characters_of is) (font_or_none a.h.font) a.f) (sym c.in-Ready.is)

pub returns-else-f-h : goal.returns-else-f-h
returns-else-f-h c =
    let a = c.args in
    λ is k.
    ap not (eq-eqb _ _ c.if-f-h.false) ∙ choose_same a.h.font a.f a.used.low a.used.high is k (omega (arith, c.if-f-ge-FONTS.false)) c.if-f-h.false ∙ ap (λ (s : Stage). may_choose (stage_of s) (characters_of is) (font_or_none a.h.font) a.f) (sym c.in-Ready.is)

pub returns-in-Named : goal.returns-in-Named
returns-in-Named c =
    let a = c.args in
    λ is k.
    choose_named a.h.font a.f a.used.low a.used.high is k (omega (arith, c.if-f-ge-FONTS.false)) ∙ ap (λ (s : Stage). may_choose (stage_of s) (characters_of is) (font_or_none a.h.font) a.f) (sym c.in-Named.is)
