-- `dvi_effect::plain_effect` meets its contract: each command's effect is that of the function called; PUSH and POP do not come.
-- Assumes nothing.
use mathlib.Core.Path.{◌≡◌, sym, ap, subst, ◌∙◌}
use mathlib.Core.List.{List}
use Rattle.std.proofs.Common.{inl, inr}
use borrow.Author.Rules.{rules}
use mir.Syntax.{w32}
use lib.IntN.{ℤ}
use Rattle.integers.specs.Bits.{plain}
use Rattle.dvi.specs.Command.{NoBracket, horz_char, set_font}
use Rattle.dvi.specs.Page.{Page, right_by, down_by, set_w, set_x, set_y, set_z, effect}
use Rattle.dvi_command.specs.Command.{command_of}
use Rattle.dvi_page.specs.Page.{page_of}
use Rattle.dvi_command.specs.declared.Command.{Command}
use Rattle.dvi_effect.proofs.plain_effect.Goals as goal
use Rattle.dvi_effect.proofs.plain_effect.Goals.{Start}

-- the page before the command; the effect of the command that the match found; PUSH and POP do not come
module _ (s : Start) where
  abbrev page : List ℤ → Page
  page l = page_of s.args.p l

  found : (l : List ℤ) {k : Command} → s.args.c ≡ k → effect s.args.widths.now (page l) (command_of k) ≡ effect s.args.widths.now (page l) (command_of s.args.c)
  found l e = ap (λ (k : Command). effect s.args.widths.now (page l) (command_of k)) (sym e)

  bracket : {k : Command} → s.args.c ≡ k → NoBracket (command_of k)
  bracket e = subst (λ (k : Command). NoBracket (command_of k)) e s.requires

-- ---- characters, NOP, EOP, brackets

pub returns-in-SetChar : goal.returns-in-SetChar
returns-in-SetChar c l = c.set_char.ensures l ∙ found (goal.at.returns-in-SetChar c).Start l c.in-SetChar.is

pub returns-in-Nop : goal.returns-in-Nop
unfolding effect
returns-in-Nop c l =
    let s = (goal.at.returns-in-Nop c).Start in
    elim c.in-Nop.is [ inl e ↦ found s l e | inr g ↦ elim g [ inl e ↦ absurd (bracket s e) | inr e ↦ absurd (bracket s e) ] ]

pub returns-in-Eop : goal.returns-in-Eop
unfolding effect
returns-in-Eop c l = c.end.ensures l ∙ found (goal.at.returns-in-Eop c).Start l c.in-Eop.is

-- ---- rules, HORZCHAR, fonts

pub returns-in-VertRule : goal.returns-in-VertRule
returns-in-VertRule c l =
    c.vert_rule.ensures c.args.widths.now l ∙ found (goal.at.returns-in-VertRule c).Start l c.in-VertRule.is

pub returns-in-HorzRule : goal.returns-in-HorzRule
returns-in-HorzRule c l =
    c.horz_rule.ensures c.args.widths.now l ∙ found (goal.at.returns-in-HorzRule c).Start l c.in-HorzRule.is

pub returns-in-HorzChar : goal.returns-in-HorzChar
returns-in-HorzChar c l =
    let e = plain {w = w32} {z = c.in-HorzChar.k} (search rules) in
    c.horz_char.ensures c.args.widths.now l ∙ ap (λ (z : ℤ). effect c.args.widths.now (page (goal.at.returns-in-HorzChar c).Start l) (horz_char z)) e ∙ found (goal.at.returns-in-HorzChar c).Start l c.in-HorzChar.is

pub returns-in-SetFont : goal.returns-in-SetFont
returns-in-SetFont c l =
    let e = plain {w = w32} {z = c.in-SetFont.f} (search rules) in
    c.set_font.ensures c.args.widths.now l ∙ ap (λ (z : ℤ). effect c.args.widths.now (page (goal.at.returns-in-SetFont c).Start l) (set_font z)) e ∙ found (goal.at.returns-in-SetFont c).Start l c.in-SetFont.is

-- ---- moves

pub returns-in-MoveW : goal.returns-in-MoveW
unfolding effect right_by set_w
returns-in-MoveW c l = c.right.ensures l ∙ found (goal.at.returns-in-MoveW c).Start l c.in-MoveW.is

pub returns-in-MoveW0 : goal.returns-in-MoveW0
unfolding effect
returns-in-MoveW0 c l = c.right-in-MoveW0.ensures l ∙ found (goal.at.returns-in-MoveW0 c).Start l c.in-MoveW0.is

pub returns-in-MoveX : goal.returns-in-MoveX
unfolding effect right_by set_x
returns-in-MoveX c l = c.right-in-MoveX.ensures l ∙ found (goal.at.returns-in-MoveX c).Start l c.in-MoveX.is

pub returns-in-MoveX0 : goal.returns-in-MoveX0
unfolding effect
returns-in-MoveX0 c l = c.right-in-MoveX0.ensures l ∙ found (goal.at.returns-in-MoveX0 c).Start l c.in-MoveX0.is

pub returns-in-MoveY : goal.returns-in-MoveY
unfolding effect down_by set_y
returns-in-MoveY c l = c.down.ensures l ∙ found (goal.at.returns-in-MoveY c).Start l c.in-MoveY.is

pub returns-in-MoveY0 : goal.returns-in-MoveY0
unfolding effect
returns-in-MoveY0 c l = c.down-in-MoveY0.ensures l ∙ found (goal.at.returns-in-MoveY0 c).Start l c.in-MoveY0.is

pub returns-in-MoveZ : goal.returns-in-MoveZ
unfolding effect down_by set_z
returns-in-MoveZ c l = c.down-in-MoveZ.ensures l ∙ found (goal.at.returns-in-MoveZ c).Start l c.in-MoveZ.is

pub returns-in-MoveZ0 : goal.returns-in-MoveZ0
unfolding effect
returns-in-MoveZ0 c l = c.down-in-MoveZ0.ensures l ∙ found (goal.at.returns-in-MoveZ0 c).Start l c.in-MoveZ0.is
