-- The codes of an item, in parts.
-- Assumes nothing.
use mathlib.Core.Path.{◌≡◌, sym, ap}
use mathlib.Core.Bool.{Bool}
use mathlib.Core.List.{[], ◌∷◌, ◌++◌}
use lib.IntN.{ℤ}
use Rattle.galley_file.specs.declared.character.Character.{Character}
use Rattle.galley_file.specs.declared.item.Item.TheVariants.{Placed}
use Rattle.typesetter.specs.declared.machine.State.{State}
use Rattle.punch_codes.specs.declared.axis.Axis.{Axis}
use Rattle.punch_codes.specs.Codes.{flash_for, set_for, motion_codes, setting_codes, moving_codes, item_codes}

pub character_codes : (s t : State) (c : Character) → t ≡ set_for s c → item_codes s (Placed c) ≡ setting_codes s t ++ (moving_codes s t ++ (flash_for c.code ∷ []))
unfolding item_codes
character_codes s t c e = ap (λ (x : State). setting_codes s x ++ (moving_codes s x ++ (flash_for c.code ∷ []))) (sym e)

pub same_motion : (a : Axis) (old new : Bool) {y y' z z' : ℤ} → y ≡ y' → z ≡ z' → motion_codes a old new y z ≡ motion_codes a old new y' z'
same_motion a old new p q = λ i. motion_codes a old new (p i) (q i)
