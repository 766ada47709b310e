-- `punch_codes::item::put_font` meets its contract: one switch after another.
-- Assumes nothing.
use mathlib.Core.List.{List, ◌++◌}
use Prim.Native.Nat.{ℕ}
use Rattle.typesetter.specs.declared.machine.Modes.{Modes}
use Rattle.punch_codes.specs.Codes.{switch_codes, font_codes}
use Rattle.octets.specs.Write.{put_then}
use Rattle.octets.specs.Space.{space_first, space_then}
use Rattle.punch_codes.proofs.item.put_font.Goals as goal

rail : Modes → Modes → List ℕ
rail m n = switch_codes 0x41 0x42 m.upper_rail n.upper_rail

mag : Modes → Modes → List ℕ
mag m n = switch_codes 0x44 0x43 m.upper_mag n.upper_mag

tilt : Modes → Modes → List ℕ
tilt m n = switch_codes 0x4E 0x4F m.tilt_down n.tilt_down

pub put_switch-to-requires : goal.put_switch-to-requires
unfolding font_codes rail mag tilt
put_switch-to-requires c = let a = c.args in space_first (rail a.s a.t) (mag a.s a.t ++ tilt a.s a.t) c.requires

pub put_switch-to-requires-2 : goal.put_switch-to-requires-2
unfolding font_codes rail mag tilt
put_switch-to-requires-2 c =
    let a = c.args in
    space_first (mag a.s a.t) (tilt a.s a.t)
    (space_then (rail a.s a.t) (mag a.s a.t ++ tilt a.s a.t) c.put_switch-to.ensures c.requires)

pub put_switch-requires : goal.put_switch-requires
unfolding font_codes rail mag tilt
put_switch-requires c =
    let a = c.args in
    space_then (mag a.s a.t) (tilt a.s a.t) c.put_switch-to-2.ensures
    (space_then (rail a.s a.t) (mag a.s a.t ++ tilt a.s a.t) c.put_switch-to.ensures c.requires)

pub returns : goal.returns
unfolding font_codes
returns c = put_then c.put_switch-to.ensures (put_then c.put_switch-to-2.ensures c.put_switch.ensures)
