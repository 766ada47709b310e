-- `dvi_command::decode_bare` meets its contract: the commands without parameters.
-- Assumes nothing.
use mathlib.Core.Path.{sym, ap, ◌∙◌}
use Rattle.dvi_command.specs.Command.{read_of}
use Prim.Native.Nat.{ℕ}
use native.Mathlib.Omega.{arith}
use Rattle.dvi_command.proofs.Commands.{decode_barred}
use Rattle.dvi.specs.Command.{decode, layout_of, layouts, with_parameters}
use Rattle.dvi_command.proofs.decode_bare.Goals as goal

pub returns-in-128 : goal.returns-in-128
unfolding decode layout_of layouts with_parameters
returns-in-128 c ps = c.whole.ensures ∙ ap (λ (o : ℕ). read_of (decode o ps)) (sym c.in-128.is)

pub returns-in-130 : goal.returns-in-130
unfolding decode layout_of layouts with_parameters
returns-in-130 c ps = c.whole-in-130.ensures ∙ ap (λ (o : ℕ). read_of (decode o ps)) (sym c.in-130.is)

pub returns-in-132 : goal.returns-in-132
unfolding decode layout_of layouts with_parameters
returns-in-132 c ps = c.whole-in-132.ensures ∙ ap (λ (o : ℕ). read_of (decode o ps)) (sym c.in-132.is)

pub returns-in-133 : goal.returns-in-133
unfolding decode layout_of layouts with_parameters
returns-in-133 c ps = c.whole-in-133.ensures ∙ ap (λ (o : ℕ). read_of (decode o ps)) (sym c.in-133.is)

pub returns-in_default : goal.returns-in_default
returns-in_default c ps = ap read_of (decode_barred c.args.op ps (omega arith) (omega arith) (omega arith) (omega arith) (omega arith) (omega arith))
