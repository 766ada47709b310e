-- The commands of a valid character of a low height show it at its targets. The position stands at targets of valid places, so every move between them and
-- every place fits 32 bits.
-- Assumes nothing.
use mathlib.Core.Path.{◌≡◌, refl}
use mathlib.Core.List.{List, [], ◌∷◌}
use native.Mathlib.Omega.{arith}
use lib.IntN.{ℤ, pos, negsuc, ◌-ℤ◌}
use lib.Signed.{◌≤ℤ◌}
use mir.Syntax.{w32}
use mir.Val.{SFits}
use Rattle.integers.specs.Parts.{integers}
use Rattle.measure.specs.Place.{low_end}
use Rattle.measure.specs.Target.{x_target, y_target}
use Rattle.measure.proofs.TargetLaws.{target_parts, y_parts, x_move_fits, y_move_fits}
use Rattle.galley_file.specs.declared.character.Character.{Character}
use Rattle.galley_file.specs.CharacterLaws.{Valid, x_range, height_range}
use Rattle.dvi.specs.Writer.{x_target_of, y_target_of, Position, start_position, position_at, commands_of}
use Rattle.dvi.specs.Demand3.{character_mark}
use Rattle.dvi.proofs.Pieces.{Leads, leads_append, leads_font, leads_x, leads_y, leads_char, position_in, position_x}

-- where a valid character may be
record Place (x h : ℤ) : Type 0 where
  left : negsuc 54 ≤ℤ x
  right : x ≤ℤ pos 3239
  top : pos 0 ≤ℤ h
  bottom : h ≤ℤ low_end

place_of : (c : Character) → Valid low_end c → Place c.x.0 c.height.0
place_of c v =
    let r = x_range v in
    let h = height_range v in
    record { left = r.0; right = r.1; top = h.0; bottom = h.1 }

x_fits : {x h : ℤ} → Place x h → SFits w32 (x_target x)
x_fits {x} p = omega (integers, p.left, p.right, target_parts x)

y_fits : {x h : ℤ} → Place x h → SFits w32 (y_target h)
y_fits {x} {h} p = omega (integers, p.top, p.bottom, y_parts h)

-- the position stands at the targets of such a place
pub record OnPage (position : Position) : Type 0 where
  x : ℤ
  h : ℤ
  place : Place x h
  x_is : position.x ≡ x_target x
  y_is : position.y ≡ y_target h

pub on_new : OnPage start_position
unfolding start_position x_target y_target
on_new =
    record {
      x = pos 0;
      h = pos 0;
      place = record { left = omega integers; right = omega integers; top = omega integers; bottom = omega integers };
      x_is = refl;
      y_is = refl;
    }

pub on_at : (c : Character) → Valid low_end c → OnPage (position_at c)
unfolding position_at
on_at c v = record { x = c.x.0; h = c.height.0; place = place_of c v; x_is = refl; y_is = refl }

module _ (ws : List ℤ) (last : ℤ) where
  pub leads_character : (position : Position) (c : Character) → OnPage position → Valid low_end c → Leads ws last position (commands_of position c) (character_mark c ∷ []) (position_at c)
  unfolding commands_of character_mark position_at
  leads_character position c o v =
      leads_append ws last (leads_font ws last position c.font v.font)
      (leads_append ws last (leads_x ws last (position_in position c.font) (x_target_of c) move_x_lem (x_fits to) (rw o.y_is (y_fits o.place)))
      (leads_append ws last (leads_y ws last (position_x (position_in position c.font) (x_target_of c)) (y_target_of c) move_y_lem (y_fits to) (x_fits to))
      (leads_char ws last (position_at c) c.font c.code refl (omega (arith, v.last)))))
    where
      from : Place o.x o.h
      from = o.place

      to : Place c.x.0 c.height.0
      to = place_of c v

      move_x_lem : SFits w32 (x_target_of c -ℤ position.x)
      move_x_lem = rw o.x_is (x_move_fits c.x.0 o.x to.left to.right from.left from.right)

      move_y_lem : SFits w32 (y_target_of c -ℤ position.y)
      move_y_lem = rw o.y_is (y_move_fits c.height.0 o.h to.top to.bottom from.top from.bottom)
