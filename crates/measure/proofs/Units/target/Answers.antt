-- `measure::Units::target` meets its contract: x + 55 is the index of x in the table.
-- Assumes nothing.
use mathlib.Core.Path.{◌≡◌, ap, ◌∙◌}
use mathlib.Core.List.{List}
use Prim.Native.Nat.{◌≤◌, ◌<◌}
use borrow.Author.Rules.{rules}
use lib.IntN.{ℤ, pos, negsuc, nat_abs, ◌-ℤ◌}
use lib.ListN.{get_or}
use mir.Syntax.{w32}
use mir.Val.{SFits, to_z, of_z}
use Rattle.integers.specs.Parts.{integers, up, dn, dif_parts, abs_parts, range_parts}
use Rattle.integers.specs.Bits.{plain}
use Rattle.measure.specs.Target.{x_target, entry_x}
use Rattle.measure.proofs.TargetLaws.{target_parts, target_entry}
use Rattle.measure.proofs.Units.target.Goals as goal
use Rattle.measure.proofs.Units.target.Goals.{After-struct_told-2-1}

module _ (c : After-struct_told-2-1) where
  abbrev x : ℤ
  x = c.args.self.0

  -- as the code makes it, by a subtraction
  abbrev index : ℤ
  index = x -ℤ negsuc 54

  x_fits : SFits w32 x
  x_fits = search rules

  index-parts : (up index ≤ 3294) × (dn index ≤ 0)
  index-parts = range_parts index 0 3294 (omega (integers, dif_parts x (negsuc 54))) (omega (integers, dif_parts x (negsuc 54)))

  index_fits : SFits w32 index
  index_fits = omega (integers, index-parts)

  index_below : nat_abs index < 3295
  index_below = omega (integers, index-parts, abs_parts index)

  place : entry_x (nat_abs index) ≡ x
  place = omega (integers, index-parts, abs_parts index, dif_parts x (negsuc 54), dif_parts (pos (nat_abs index)) (pos 55))

  target_fits : SFits w32 (x_target x)
  target_fits = omega (integers, target_parts x)

pub returns : goal.returns
returns c =
    let k = nat_abs (index (goal.at.returns c).After-struct_told-2-1) in
    let e = ap (λ (l : List ℤ). get_or l k (pos 0)) c.requires.targets_value ∙ target_entry k (index_below (goal.at.returns c).After-struct_told-2-1) ∙ ap x_target (place (goal.at.returns c).After-struct_told-2-1) in
    rw (plain (x_fits (goal.at.returns c).After-struct_told-2-1), plain (index_fits (goal.at.returns c).After-struct_told-2-1)) (ap (λ (z : ℤ). to_z w32 (of_z w32 z)) e ∙ plain (target_fits (goal.at.returns c).After-struct_told-2-1))
