-- `dvi_step::in_page` meets its contract: the command is decoded, its effect taken, and the step made of it.
-- Assumes nothing.
use mathlib.Core.Path.{sym, ap, ◌∙◌}
use lib.IntN.{ℤ}
use Rattle.integers.specs.Bits.{plain}
use Rattle.dvi.specs.File.{after_effect, step}
use Rattle.dvi_command.specs.Command.{decoded_of}
use Rattle.dvi_page.specs.Page.{page_of, effect_of}
use Rattle.dvi_step.proofs.Steps.{read_page, page_read}
use Rattle.dvi_step.proofs.in_page.Goals as goal

pub returns-in-Err : goal.returns-in-Err
unfolding step
returns-in-Err c =
    let a = c.args in
    let p = page_of a.p a.entries.now in
    ap (read_page a.widths.now a.last p) (ap decoded_of (sym c.in-Err.is) ∙ c.decode.ensures) ∙ page_read a.widths.now a.last p _

pub returns-in-Ok : goal.returns-in-Ok
unfolding step
returns-in-Ok c =
    let a = c.args in
    let p = page_of a.p a.entries.now in
    let e = c.effect_of in
    let l = e.new.entries in
    let n = c.in-Ok.d.length in
    c.after_effect.ensures l
    ∙ ap (λ (z : ℤ). after_effect z n (effect_of e.result l)) (plain c.ranges.last)
    ∙ ap (after_effect a.last n) e.ensures
    ∙ ap (read_page a.widths.now a.last p) (ap decoded_of (sym c.in-Ok.is) ∙ c.decode.ensures)
    ∙ page_read a.widths.now a.last p _
