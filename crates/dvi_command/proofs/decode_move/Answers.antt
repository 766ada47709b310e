-- `dvi_command::decode_move` meets its contract: the parameter is there, or the command is cut short.
-- Assumes nothing.
use mathlib.Core.Path.{sym, ap, ◌∙◌}
use lib.ListN.{drop}
use Rattle.dvi.specs.Command.{Command, command}
use Rattle.dvi_command.specs.Command.{moving_of, read_of}
use Rattle.dvi_command.proofs.Commands.{with_value, with_none, none_of}
use borrow.Author.Rules.{rules}
use Rattle.dvi_command.proofs.decode_move.Goals as goal

pub returns : goal.returns
returns c =
    let a = c.args in
    let ps = drop a.at a.s.now in
    c.whole.ensures
    ∙ ap read_of (ap (λ (k : Command). command k a.n) (c.moving.ensures ∙ ap (moving_of a.amount) (search rules))
    ∙ sym (with_value a.n (moving_of a.amount) ps c.in-Some.m (sym c.parameter_at.ensures ∙ c.in-Some.is)))

pub returns-in_default : goal.returns-in_default
returns-in_default c =
    let a = c.args in
    ap read_of (sym (with_none a.n (moving_of a.amount) (drop a.at a.s.now) (sym c.parameter_at.ensures ∙ none_of c.parameter_at.result c.in_default.not-Some)))
