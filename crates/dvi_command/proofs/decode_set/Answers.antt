-- `dvi_command::decode_set` meets its contract: the parameter is there, or the command is cut short.
-- Assumes nothing.
use mathlib.Core.Path.{sym, ap, ◌∙◌}
use lib.IntN.{ℤ}
use lib.ListN.{drop}
use Rattle.dvi.specs.Command.{horz_char, set_font, command}
use Rattle.dvi_command.specs.Command.{read_of}
use Rattle.dvi_command.proofs.Commands.{decode_horz_char, decode_font, with_value, with_none, second_of, none_of}
use borrow.Author.Rules.{rules}
use Rattle.dvi_command.proofs.decode_set.Goals as goal

pub returns-in-Some : goal.returns-in-Some
returns-in-Some c =
    let a = c.args in
    c.whole.ensures
    ∙ ap read_of (sym (decode_horz_char a.op (drop a.at a.s.now) c.if-op-eq-HORZCHAR.true
    ∙ with_value 1 horz_char (drop a.at a.s.now) c.in-Some.c (sym c.parameter_at.ensures ∙ c.in-Some.is)
    ∙ ap (λ (m : ℤ). command (horz_char m) 1) (sym (search rules))))

pub returns-in_default : goal.returns-in_default
returns-in_default c =
    let a = c.args in
    ap read_of (sym (decode_horz_char a.op (drop a.at a.s.now) c.if-op-eq-HORZCHAR.true
    ∙ with_none 1 horz_char (drop a.at a.s.now) (sym c.parameter_at.ensures ∙ none_of c.parameter_at.result c.in_default.not-Some)))

pub returns-in-Some-parameter_at : goal.returns-in-Some-parameter_at
returns-in-Some-parameter_at c =
    let a = c.args in
    c.whole-else-op-eq-HORZCHAR.ensures
    ∙ ap read_of (sym (decode_font a.op (drop a.at a.s.now) (second_of 136 a.op (search rules) (search rules) c.if-op-eq-HORZCHAR.false)
    ∙ with_value 4 set_font (drop a.at a.s.now) c.in-Some-parameter_at.f (sym c.parameter_at-else-op-eq-HORZCHAR.ensures ∙ c.in-Some-parameter_at.is)
    ∙ ap (λ (m : ℤ). command (set_font m) 4) (sym (search rules))))

pub returns-in_default-parameter_at : goal.returns-in_default-parameter_at
returns-in_default-parameter_at c =
    let a = c.args in
    ap read_of (sym (decode_font a.op (drop a.at a.s.now) (second_of 136 a.op (search rules) (search rules) c.if-op-eq-HORZCHAR.false)
    ∙ with_none 4 set_font (drop a.at a.s.now) (sym c.parameter_at-else-op-eq-HORZCHAR.ensures ∙ none_of c.parameter_at-else-op-eq-HORZCHAR.result c.in_default-parameter_at.not-Some)))
