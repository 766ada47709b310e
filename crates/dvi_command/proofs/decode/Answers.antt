-- `dvi_command::decode` meets its contract: a character, or one of the others.
-- Assumes nothing.
use mathlib.Core.Path.{ap, ◌∙◌}
use Rattle.dvi_command.specs.Command.{read_of}
use Rattle.dvi_command.proofs.Commands.{decode_set}
use Rattle.dvi_command.proofs.decode.Goals as goal

pub returns-then-op-lt-NOP : goal.returns-then-op-lt-NOP
returns-then-op-lt-NOP c = c.whole.ensures ∙ ap read_of (decode_set _ _ c.if-op-lt-NOP.true)
