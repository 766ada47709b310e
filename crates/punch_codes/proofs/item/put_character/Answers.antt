-- `punch_codes::item::put_character` meets its contract: the setting, the motions and the flash.
-- Assumes nothing.
use mathlib.Core.Path.{sym, ap, subst}
use mathlib.Core.List.{[], ◌∷◌, ◌++◌}
use Prim.Native.Nat.{ℕ, ◌<◌}
use Rattle.typesetter.specs.declared.machine.State.{State}
use Rattle.typesetter.specs.Sound.{Sound}
use Rattle.punch_codes.specs.Codes.{flash_for, setting_codes, moving_codes}
use Rattle.octets.specs.Write.{put_named, put_then}
use Rattle.octets.specs.Space.{space_named, space_first, space_then}
use Rattle.punch_codes.proofs.CodesLaws.{set_sound, set_small}
use Rattle.punch_codes.proofs.Items.{character_codes}
use Rattle.punch_codes.proofs.item.put_character.Goals as goal

pub put_setting-to-requires : goal.put_setting-to-requires
put_setting-to-requires c =
    let a = c.args in
    let p = c.requires in (
      subst (λ (x : State). x.size < 15) (sym p.0.1) (set_small a.s a.c),
      space_first (setting_codes a.s a.t) (moving_codes a.s a.t ++ (flash_for a.c.code ∷ [])) (space_named (character_codes a.s a.t a.c p.0.1) p.1.1),
    )

pub put_moving-to-requires : goal.put_moving-to-requires
put_moving-to-requires c =
    let a = c.args in
    let p = c.requires in (
      (p.0.0, subst Sound (sym p.0.1) (set_sound a.s a.c p.1.0)),
      space_first (moving_codes a.s a.t) (flash_for a.c.code ∷ [])
          (space_then (setting_codes a.s a.t) (moving_codes a.s a.t ++ (flash_for a.c.code ∷ [])) c.put_setting-to.ensures (space_named (character_codes a.s a.t a.c p.0.1) p.1.1)),
    )

pub put_code-requires : goal.put_code-requires
put_code-requires c =
    let a = c.args in
    let p = c.requires in
    space_named (ap (λ (b : ℕ). b ∷ []) (sym c.flash_for.ensures))
    (space_then (moving_codes a.s a.t) (flash_for a.c.code ∷ []) c.put_moving-to.ensures
    (space_then (setting_codes a.s a.t) (moving_codes a.s a.t ++ (flash_for a.c.code ∷ [])) c.put_setting-to.ensures (space_named (character_codes a.s a.t a.c p.0.1) p.1.1)))

pub returns : goal.returns
returns c =
    let a = c.args in
    let p = c.requires in
    put_named (sym (character_codes a.s a.t a.c p.0.1))
    (put_then c.put_setting-to.ensures (put_then c.put_moving-to.ensures (put_named (ap (λ (b : ℕ). b ∷ []) c.flash_for.ensures) c.put_code.ensures)))
