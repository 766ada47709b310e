-- The fonts that are used, from a font on.
use Rattle.std.specs.Prelude.{ℕ, zero, suc, cond, List, [], ◌∷◌, ◌++◌}
use Rattle.galley_file.specs.declared.character.Character.{Character}
use Rattle.extents.specs.FontMarks.{uses}

-- from f on, n of them
unfoldable pub used_from : ℕ → ℕ → List Character → List ℕ
used_from f zero cs = []
used_from f (suc n) cs = cond (uses f cs) (f ∷ []) [] ++ used_from (suc f) n cs
