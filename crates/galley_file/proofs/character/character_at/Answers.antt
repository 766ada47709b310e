-- `galley_file::character::character_at` meets its contract: each part is read by its own rule.
-- Assumes nothing.
use mathlib.Core.Path.{◌≡◌, ap, ◌∙◌}
use Prim.Native.Nat.{◌+◌, ◌-◌}
use native.Mathlib.Omega.{arith}
use lib.IntN.{pos}
use lib.ListN.{get_or}
use mir.Syntax.{w32}
use mir.Val.{SFits}
use Rattle.integers.specs.Parts.{integers}
use Rattle.integers.specs.Bits.{plain_pos, returned}
use Rattle.galley_file.specs.Form.{height_bytes}
use Rattle.galley_file.specs.FormLaws.{form_sizes}
use Rattle.galley_file.specs.Character.{character_at}
use Rattle.galley_file.proofs.character.character_at.Goals as goal
use Rattle.galley_file.proofs.character.character_at.Goals.{After-character_size}

size_is : (c : After-character_size) → c.character_size.result ≡ height_bytes c.args.f + 7
size_is c = c.character_size.ensures.0 ∙ (form_sizes c.args.f).size_is

pub returns : goal.returns
unfolding character_at
returns c =
    let a = c.args in
    let w = height_bytes a.f in
    let p = c.signed2_at-x in
    let q = c.height_at-height in
    let x = returned w32 p.type_inv p.ensures in
    let f : SFits w32 (pos q.result) = omega (integers, q.ensures, c.requires.1, (form_sizes a.f).low) in
    let h = plain_pos f ∙ ap pos q.ensures in
    let y : a.i + c.character_size.result - 2 ≡ a.i + (w + 5) = omega (arith, size_is (goal.at.returns c).After-character_size) in
    let z : a.i + c.character_size.result - 1 ≡ a.i + (w + 6) = omega (arith, size_is (goal.at.returns c).After-character_size) in
    (λ i. record { x = record { 0 = x i }; height = record { 0 = h i }; font = get_or a.s.now (y i) 0; code = get_or a.s.now (z i) 0 })
