-- `dvi_command::parameter_at` meets its contract: by the number of bytes.
-- Assumes nothing.
use native.Mathlib.Omega.{arith}
use lib.ListN.{drop, length-drop}
use mir.Syntax.{w32}
use Rattle.integers.specs.Bits.{returned}
use Rattle.dvi_command.proofs.Commands.{parameter_value, parameter_short}
use Rattle.dvi_command.proofs.parameter_at.Goals as goal

pub returns-then-s-at : goal.returns-then-s-at
returns-then-s-at c =
    let a = c.args in
    let l = length-drop a.at a.s.now in
    parameter_short a.n (drop a.at a.s.now) (omega arith)

pub returns-else-s-at : goal.returns-else-s-at
returns-else-s-at c =
    let a = c.args in
    let l = length-drop a.at a.s.now in
    parameter_value a.n (drop a.at a.s.now) _ (omega arith) (returned w32 c.signed_at.type_inv c.signed_at.ensures)
