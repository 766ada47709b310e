-- `punch_codes::item::put_setting` meets its contract: the font, the half and the size.
-- Assumes nothing.
use mathlib.Core.List.{List, ◌++◌}
use Prim.Native.Nat.{ℕ}
use Rattle.typesetter.specs.declared.machine.State.{State}
use Rattle.punch_codes.specs.Codes.{switch_codes, size_codes, font_codes, setting_codes}
use Rattle.octets.specs.Write.{put_then}
use Rattle.octets.specs.Space.{space_first, space_then}
use Rattle.punch_codes.proofs.item.put_setting.Goals as goal

half : State → State → List ℕ
half s t = switch_codes 0x45 0x46 s.modes.upper_half t.modes.upper_half

pub put_font-to-requires : goal.put_font-to-requires
unfolding setting_codes half
put_font-to-requires c = let a = c.args in space_first (font_codes a.s.modes a.t.modes) (half a.s a.t ++ size_codes a.s.size a.t.size) c.requires.1

pub put_switch-to-requires : goal.put_switch-to-requires
unfolding setting_codes half
put_switch-to-requires c =
    let a = c.args in
    space_first (half a.s a.t) (size_codes a.s.size a.t.size)
    (space_then (font_codes a.s.modes a.t.modes) (half a.s a.t ++ size_codes a.s.size a.t.size) c.put_font-to.ensures c.requires.1)

pub put_size-requires : goal.put_size-requires
unfolding setting_codes half
put_size-requires c =
    let a = c.args in (
      c.requires.0,
      space_then (half a.s a.t) (size_codes a.s.size a.t.size) c.put_switch-to.ensures
          (space_then (font_codes a.s.modes a.t.modes) (half a.s a.t ++ size_codes a.s.size a.t.size) c.put_font-to.ensures c.requires.1),
    )

pub returns : goal.returns
unfolding setting_codes
returns c = put_then c.put_font-to.ensures (put_then c.put_switch-to.ensures c.put_size.ensures)
