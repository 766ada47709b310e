-- `dvi_effect::set_char` meets its contract: the font, then the width, and the move to the right.
-- Assumes nothing.
use mathlib.Core.Path.{sym, ap, ◌∙◌}
use mathlib.Core.Bool.{Bool}
use borrow.Author.Rules.{rules}
use lib.IntN.{ℤ}
use mir.Syntax.{w32}
use Rattle.integers.specs.Bits.{plain}
use Rattle.sheet.specs.Sheet.{Mark}
use Rattle.dvi.specs.Page.{right_by, show_and_go_to, char_here, width_in, set_moving, set_in_font, effect}
use Rattle.dvi_page.specs.Page.{page_of, font_if_set}
use Rattle.dvi_effect.specs.Width.{lent_width}
use Rattle.dvi_effect.proofs.set_char.Goals as goal

pub returns-in-None : goal.returns-in-None
unfolding effect set_in_font set_moving
returns-in-None c l =
    let a = c.args in
    let p = page_of a.p l in
    let f = plain {w = w32} {z = a.p.font} (search rules) in
    let w = ap (λ (z : ℤ). width_in a.widths.now z a.c) (sym f) ∙ sym c.width_of.ensures ∙ ap lent_width c.in-None.is in
    sym (ap (λ (b : Bool). set_in_font a.widths.now p a.c (font_if_set b a.p.font)) c.if-p.true ∙ ap (set_moving p a.c a.p.font) w)

pub returns-in-Some : goal.returns-in-Some
unfolding effect set_in_font set_moving
returns-in-Some c l =
    let a = c.args in
    let p = page_of a.p l in
    let f = plain {w = w32} {z = a.p.font} (search rules) in
    let w = ap (λ (z : ℤ). width_in a.widths.now z a.c) (sym f) ∙ sym c.width_of.ensures ∙ ap lent_width c.in-Some.is in
    let h = c.if-p.true in
    c.show_right.ensures l
    ∙ ap (λ (k : Mark). show_and_go_to p k (right_by c.in-Some.d.0 p.numbers)) (c.char_here.ensures l ∙ ap (λ (z : ℤ). char_here p z a.c) f)
    ∙ sym (ap (λ (b : Bool). set_in_font a.widths.now p a.c (font_if_set b a.p.font)) h ∙ ap (set_moving p a.c a.p.font) w)

pub returns-else-p : goal.returns-else-p
unfolding effect set_in_font
returns-else-p c l =
    let a = c.args in
    ap (λ (b : Bool). set_in_font a.widths.now (page_of a.p l) a.c (font_if_set b a.p.font)) (sym c.if-p.false)
