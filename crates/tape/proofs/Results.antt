-- The buffer after the second pass and End.
-- Assumes nothing.
use mathlib.Core.Path.{◌≡◌, sym, ◌∙◌}
use mathlib.Core.List.{List, ◌++◌}
use Prim.Native.Nat.{ℕ, ◌+◌, ◌≤◌}
use native.Mathlib.Omega.{arith}
use lib.ListN.{length, drop}
use lib.Seq.{sets}
use Rattle.octets.specs.Field.{end_field}
use Rattle.octets.specs.Write.{sets_append, sets_start}
use Rattle.galley_file.specs.declared.form.Form.TheVariants.{New}
use Rattle.galley_file.specs.declared.item.Item.{Item}
use Rattle.galley_file.specs.Item.{characters_of}
use Rattle.galley_file.specs.Galley.{fields, galley}
use Rattle.galley_file.specs.GalleyLaws.{length_galley}

pub filled : (is : List Item) (n at : ℕ) (buffer b₁ b₂ : List ℕ) → n ≡ length (characters_of is) → at ≡ length (fields New is) → at + 7 ≤ length buffer
    → b₁ ≡ sets buffer 0 (fields New is) → b₂ ≡ sets b₁ at (end_field n) → b₂ ≡ galley New is ++ drop (length (galley New is)) buffer
unfolding galley
filled is n at buffer b₁ b₂ en ea h e₁ e₂ =
    let place : at ≡ 0 + length (fields New is) = omega (arith, ea) in
    e₂
    ∙ (λ i. sets (e₁ i) (place i) (end_field (en i)))
    ∙ sym (sets_append buffer 0 (fields New is) (end_field (length (characters_of is))))
    ∙ sets_start buffer (galley New is) (omega (arith, length_galley New is))
