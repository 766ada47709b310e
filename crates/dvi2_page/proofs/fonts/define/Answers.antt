-- `dvi2_page::fonts::define` meets its contract: only before a character, and cut short only where some font is free.
-- Assumes nothing.
use mathlib.Core.Path.{sym, ◌∙◌}
use Rattle.dvi2_page.proofs.Defines.{d_not_ready, d_short, d_none}
use Rattle.dvi2_page.proofs.fonts.define.Goals as goal

pub returns-then-not-is_ready : goal.returns-then-not-is_ready
returns-then-not-is_ready c =
    let a = c.args in
    let p = c.requires in
    λ is l k. d_not_ready a.s.now a.at a.h is l a.used.low a.used.high k p.1 (sym c.is_ready.ensures ∙ c.if-not-is_ready.true)

pub returns-then-some_free : goal.returns-then-some_free
returns-then-some_free c =
    let a = c.args in
    let p = c.requires in
    λ is l k. d_short a.s.now a.at a.h is l a.used.low a.used.high k p.1 (sym c.is_ready.ensures ∙ c.if-not-is_ready.false) c.if-s-at-lt2.true (sym (c.some_free.ensures is k) ∙ c.if-some_free.true)

pub returns-else-some_free : goal.returns-else-some_free
returns-else-some_free c =
    let a = c.args in
    let p = c.requires in
    λ is l k. d_none a.s.now a.at a.h is l a.used.low a.used.high k p.1 (sym c.is_ready.ensures ∙ c.if-not-is_ready.false) c.if-s-at-lt2.true (sym (c.some_free.ensures is k) ∙ c.if-some_free.false)
