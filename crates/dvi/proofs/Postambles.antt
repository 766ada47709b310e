-- The writer's postamble is one: each definition is passed over, and the trailer is right.
-- Assumes nothing.
use mathlib.Core.Path.{◌≡◌, refl, ◌∙◌}
use mathlib.Core.Bool.{true, cond}
use mathlib.Core.List.{List, [], ◌∷◌, ◌++◌, map, flatten, append_assoc}
use Prim.Native.Nat.{ℕ, zero, suc, ◌+◌, ◌/◌, ◌%◌, ◌≤◌, ◌<◌}
use native.Mathlib.Omega.{arith}
use borrow.Author.Tests.{le-leb, ne_eqb}
use lib.IntN.{pos, negsuc}
use lib.ListN.{length, drop}
use Rattle.integers.specs.Equality.{eq_z, true_eq_z}
use Rattle.octets.specs.Octets.{number_from, twos, signed, bytes, residue, signed_bytes}
use Rattle.octets.specs.OctetsLaws.{by_cond, signed_first}
use Rattle.galley_file.specs.Font.{font_of, point_size}
use Rattle.galley_file.specs.declared.character.Character.{Character}
use Rattle.dvi.specs.Postamble.{all223, trailer, at_id, definitions, postamble}
use Rattle.extents.specs.FontMarks.{uses, used_fonts}
use Rattle.extents.specs.Extents.{largest}
use Rattle.dvi.specs.Writer.{x_target_of, y_target_of, name_of, definition, definition_bytes, trailer_bytes, postamble_bytes}
use Rattle.dvi.proofs.WriterLaws.{definitions_append}

module _ (pst : ℕ) where
  -- no character of a name is a quote
  pass_definition : (f : ℕ) (rest : List ℕ) → f < 2147483648 → definitions pst at_id (definition f ++ rest) ≡ definitions pst at_id rest
  unfolding definitions definition name_of signed_bytes bytes eq_z
  pass_definition f rest h =
      rw (le-leb 3 (length (drop 1 (definition f ++ rest))) (omega arith))
      (rw (signed_first 4 (pos f) (signed_bytes 4 (pos f) ++ (34 ∷ name_of f ++ (34 ∷ rest))) (record { half = omega arith }))
      (rw (ne_eqb (48 + font_of f) 34 (λ e. omega arith), ne_eqb (48 + point_size f / 10) 34 (λ e. omega arith), ne_eqb (48 + point_size f % 10) 34 (λ e. omega arith))))

  pass_definitions : (n : ℕ) (cs : List Character) (rest : List ℕ) → n ≤ 120 → definitions pst at_id (definition_bytes (used_fonts n cs) ++ rest) ≡ definitions pst at_id rest
  unfolding used_fonts flatten
  pass_definitions zero cs rest h = refl
  pass_definitions (suc n) cs rest h =
      rw (definitions_append, append_assoc, pass_definitions n cs (definition_bytes (cond (uses n cs) (n ∷ []) []) ++ rest) (omega arith))
      (by_cond (λ (fs : List ℕ). definitions pst at_id (definition_bytes fs ++ rest) ≡ definitions pst at_id rest) (uses n cs) _ _
      (λ _. rw append_assoc (pass_definition n rest (omega arith)))
      (λ _. refl))

  minus_one : signed (255 ∷ 255 ∷ 255 ∷ 255 ∷ []) ≡ negsuc 0
  unfolding signed twos number_from
  minus_one = refl

  trailer_right : pst < 2147483648 → definitions pst at_id (trailer_bytes pst) ≡ true
  unfolding definitions trailer_bytes trailer signed_bytes bytes residue eq_z all223
  trailer_right h = rw minus_one (rw (signed_first 4 (pos pst) (0 ∷ 223 ∷ 223 ∷ 223 ∷ 223 ∷ []) (record { half = omega arith })) (rw (true_eq_z (pos pst) (pos pst) refl)))

  pub postamble_right : (last : ℕ) (cs : List Character) → last < 2147483648 → pst < 2147483648 → postamble (pos last) pst (drop 1 (postamble_bytes last pst cs)) ≡ true
  unfolding postamble postamble_bytes signed_bytes bytes
  postamble_right last cs k h =
      let rest = definition_bytes (used_fonts 120 cs) ++ trailer_bytes pst in
      let sizes = signed_bytes 4 (largest (map y_target_of cs)) ++ (signed_bytes 4 (largest (map x_target_of cs)) ++ rest) in
      rw (le-leb 12 (length (drop 1 (postamble_bytes last pst cs))) (omega arith))
      (rw (signed_first 4 (pos last) sizes (record { half = omega arith }), true_eq_z (pos last) (pos last) refl)
      (pass_definitions 120 cs (trailer_bytes pst) (omega arith) ∙ trailer_right h))
