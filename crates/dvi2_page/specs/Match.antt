-- How bytes compare with a command that they should start with.
use Rattle.std.specs.Prelude.{ℕ, cond, List, [], ◌∷◌, eqb, Result, Ok, Err}
use Rattle.dvi2_state.specs.declared.page_state.Wrong.{Wrong}
use Rattle.dvi2_state.specs.declared.page_state.Wrong.TheVariants.{Bad, Short}

unfoldable pub compared : List ℕ → List ℕ → Result (Unit {0}) Wrong
compared s [] = Ok tt
compared [] (e ∷ es) = Err Short
compared (b ∷ s) (e ∷ es) = cond (eqb b e) (compared s es) (Err Bad)
