-- `dvi2_page::fonts::define_font` meets its contract: the font must be free, and the bytes those of its definition.
-- Assumes nothing.
use mathlib.Core.Path.{◌≡◌, sym, ap, ◌∙◌}
use native.Mathlib.Omega.{arith}
use lib.ListN.{drop}
use Rattle.std.specs.Prelude.{Ok, Err}
use Rattle.std.proofs.lemmas.Result.{err_from_is_err_and}
use Rattle.dvi2.specs.Writer.{definition}
use Rattle.dvi2_reading.specs.Reading.{page_state_after, with_font, in_page, go}
use Rattle.dvi2_reading.specs.PageReading as Page
use Rattle.dvi2_state.specs.declared.page_state.PageState.{PageState}
use Rattle.dvi2_state.specs.Page.{page_state_of, page_position, step_of}
use Rattle.dvi.specs.FontOrNone.{font_some}
use Rattle.dvi2_page.specs.Match.{compared}
use Rattle.dvi2_page.proofs.Defines.{d_big, d_used, d_wrong, d_go}
use Rattle.dvi2_page.proofs.fonts.define_font.Goals as goal
use Rattle.dvi2_page.proofs.fonts.define_font.Goals.{then-f-ge-FONTS-via-then-f-ge-FONTS, then-f-ge-FONTS-via-else-f-ge-FONTS+then-has_font}

pub returns-then-f-ge-FONTS : goal.returns-then-f-ge-FONTS
returns-then-f-ge-FONTS c =
    let a = c.args in
    let p = c.requires in
    λ is l k.
    elim c.then-f-ge-FONTS.branch [
      | then-f-ge-FONTS-via-then-f-ge-FONTS b ↦ d_big a.s.now a.at a.h is l a.used.low a.used.high k p.0.1.0 p.1 p.0.0 a.f p.0.1.1 b.if-f-ge-FONTS.true
      | then-f-ge-FONTS-via-else-f-ge-FONTS+then-has_font b ↦
          d_used a.s.now a.at a.h is l a.used.low a.used.high k p.0.1.0 p.1 p.0.0 a.f p.0.1.1 (omega (arith, b.if-f-ge-FONTS.false)) (sym b.has_font.ensures ∙ b.if-has_font.true)
    ]

pub returns-in_err-compare : goal.returns-in_err-compare
returns-in_err-compare c =
    let a = c.args in
    let p = c.requires in
    let e = err_from_is_err_and c.from_residual.result c.from_residual.ensures.1 in
    let w = c.in_err-compare.field-0.0 in
    let q : compared (drop a.at a.s.now) (definition a.f) ≡ Err w =
    ap (compared (drop a.at a.s.now)) (sym c.definition.ensures) ∙ sym c.compare.ensures ∙ c.in_err-compare.was in
    λ is l k.
    ap (step_of is a.h) (e.1 ∙ ap Err e.2)
    ∙ d_wrong a.s.now a.at a.h is l a.used.low a.used.high k p.0.1.0 p.1 p.0.0 a.f p.0.1.1 (omega (arith, c.if-f-ge-FONTS.false)) (sym c.has_font.ensures ∙ c.if-has_font.false) w q

pub returns : goal.returns
unfolding page_state_after with_font
returns c =
    let a = c.args in
    let p = c.requires in
    let q : compared (drop a.at a.s.now) (definition a.f) ≡ Ok tt =
    ap (compared (drop a.at a.s.now)) (sym c.definition.ensures) ∙ sym c.compare.ensures ∙ c.in_ok-compare.was in
    λ is l k.
    ap (λ (g : PageState). go (in_page (page_state_of is g)) 19) c.with_font.ensures
    ∙ (λ i. go (in_page (record { items = is; stage = Page.named; position = record { font = font_some a.f (λ e. omega (arith, c.if-f-ge-FONTS.false)) i; x = a.h.x.0; y = (page_position a.h).y } })) 19)
    ∙ d_go a.s.now a.at a.h is l a.used.low a.used.high k p.0.1.0 p.1 p.0.0 a.f p.0.1.1 (omega (arith, c.if-f-ge-FONTS.false)) (sym c.has_font.ensures ∙ c.if-has_font.false) q
