-- `dvi_command::decode_other` meets its contract: FONTNUM, and the rest undefined.
-- Assumes nothing.
use mathlib.Core.Path.{ap, ◌∙◌}
use Prim.Native.Nat.{◌-◌}
use Rattle.dvi_command.specs.Command.{read_of}
use native.Mathlib.Omega.{arith}
use lib.IntN.{ℤ}
use mir.Syntax.{w32}
use mir.ValLaws.{to_z_pos}
use Rattle.dvi.specs.Command.{set_font, command}
use Rattle.dvi_command.proofs.Commands.{decode_fontnum, decode_undefined}
use Rattle.dvi_command.proofs.decode_other.Goals as goal

pub returns-then-op-ge-UNDEFINED : goal.returns-then-op-ge-UNDEFINED
returns-then-op-ge-UNDEFINED c ps = ap read_of (decode_undefined c.args.op ps c.if-op-ge-UNDEFINED.true)

pub returns-else-op-ge-UNDEFINED : goal.returns-else-op-ge-UNDEFINED
returns-else-op-ge-UNDEFINED c ps =
    let op = c.args.op in
    c.whole.ensures ∙ ap read_of (ap (λ (z : ℤ). command (set_font z) 0) (to_z_pos w32 (op - 154) (omega arith)) ∙ decode_fontnum op ps c.requires c.if-op-ge-UNDEFINED.false)
