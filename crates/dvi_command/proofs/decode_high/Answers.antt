-- `dvi_command::decode_high` meets its contract: for each first byte, its layout.
-- Assumes nothing.
use mathlib.Core.Path.{ap, ◌∙◌}
use Rattle.dvi_command.specs.Command.{read_of}
use native.Mathlib.Omega.{arith}
use Rattle.dvi_command.proofs.Commands.{arm, arm_none, moves_w, moves_x, moves_y, moves_z}
use Rattle.dvi_command.specs.declared.Amount.TheVariants.{W, X, Y, Z}
use Rattle.dvi_command.proofs.decode_high.Goals as goal
use Rattle.dvi_command.proofs.decode_high.Goals.{in_default-via-then-op-lt128, in_default-via-else-op-lt128+else-op-lt134+else-op-lt136+else-op-lt138}

pub decode_other-requires : goal.decode_other-requires
decode_other-requires c =
    elim c.in_default.branch [ in_default-via-then-op-lt128 w ↦ omega arith | in_default-via-else-op-lt128+else-op-lt134+else-op-lt136+else-op-lt138 w ↦ omega arith ]

pub returns-in-138 : goal.returns-in-138
returns-in-138 c = c.decode_move.ensures ∙ ap read_of (arm _ 138 _ _ c.in-138.is moves_w.four)

pub returns-in-139 : goal.returns-in-139
returns-in-139 c = c.decode_move-in-139.ensures ∙ ap read_of (arm _ 139 _ _ c.in-139.is moves_w.three)

pub returns-in-140 : goal.returns-in-140
returns-in-140 c = c.decode_move-in-140.ensures ∙ ap read_of (arm _ 140 _ _ c.in-140.is moves_w.two)

pub returns-in-141 : goal.returns-in-141
returns-in-141 c = c.whole.ensures ∙ ap read_of (arm_none _ 141 W _ c.in-141.is moves_w.none c.still.ensures)

pub returns-in-142 : goal.returns-in-142
returns-in-142 c = c.decode_move-in-142.ensures ∙ ap read_of (arm _ 142 _ _ c.in-142.is moves_x.four)

pub returns-in-143 : goal.returns-in-143
returns-in-143 c = c.decode_move-in-143.ensures ∙ ap read_of (arm _ 143 _ _ c.in-143.is moves_x.three)

pub returns-in-144 : goal.returns-in-144
returns-in-144 c = c.decode_move-in-144.ensures ∙ ap read_of (arm _ 144 _ _ c.in-144.is moves_x.two)

pub returns-in-145 : goal.returns-in-145
returns-in-145 c = c.whole-in-145.ensures ∙ ap read_of (arm_none _ 145 X _ c.in-145.is moves_x.none c.still-in-145.ensures)

pub returns-in-146 : goal.returns-in-146
returns-in-146 c = c.decode_move-in-146.ensures ∙ ap read_of (arm _ 146 _ _ c.in-146.is moves_y.four)

pub returns-in-147 : goal.returns-in-147
returns-in-147 c = c.decode_move-in-147.ensures ∙ ap read_of (arm _ 147 _ _ c.in-147.is moves_y.three)

pub returns-in-148 : goal.returns-in-148
returns-in-148 c = c.decode_move-in-148.ensures ∙ ap read_of (arm _ 148 _ _ c.in-148.is moves_y.two)

pub returns-in-149 : goal.returns-in-149
returns-in-149 c = c.whole-in-149.ensures ∙ ap read_of (arm_none _ 149 Y _ c.in-149.is moves_y.none c.still-in-149.ensures)

pub returns-in-150 : goal.returns-in-150
returns-in-150 c = c.decode_move-in-150.ensures ∙ ap read_of (arm _ 150 _ _ c.in-150.is moves_z.four)

pub returns-in-151 : goal.returns-in-151
returns-in-151 c = c.decode_move-in-151.ensures ∙ ap read_of (arm _ 151 _ _ c.in-151.is moves_z.three)

pub returns-in-152 : goal.returns-in-152
returns-in-152 c = c.decode_move-in-152.ensures ∙ ap read_of (arm _ 152 _ _ c.in-152.is moves_z.two)

pub returns-in-153 : goal.returns-in-153
returns-in-153 c = c.whole-in-153.ensures ∙ ap read_of (arm_none _ 153 Z _ c.in-153.is moves_z.none c.still-in-153.ensures)
