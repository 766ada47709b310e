-- An ordinary character on a page whose field was given, without the whole step.
-- Assumes nothing.
use mathlib.Core.Path.{◌≡◌, sym, ap, ◌∙◌}
use mathlib.Core.Bool.{true}
use mathlib.Core.List.{List, [], ◌∷◌}
use Prim.Native.Nat.{ℕ, ◌≤◌, ◌<◌}
use lib.IntN.{ℤ, pos, ◌+ℤ◌}
use Rattle.octets.specs.Octets.{fits32}
use Rattle.sheet.specs.Sheet.{char_mark}
use Rattle.xgp_code.specs.declared.Code.TheVariants.{Char}
use Rattle.xgp.specs.declared.state.State.{State}
use Rattle.xgp_code.specs.Measure.{in_dots}
use Rattle.xgp_code.specs.Code.{usual, of_seven_bits, read, decode}
use Rattle.xgp.specs.State.{with_x, after_char, moved, page_marks, set_marks, y_in, width_in, set_char, effect}
use Rattle.xgp.specs.File.{go_on, after_effect, after_code, step}
use Rattle.std.specs.Prelude.{Ok}
use Rattle.std.proofs.Common.{rules, tests}

plain_code : (b : ℕ) (bs : List ℕ) → 14 ≤ b → b < 127 → decode b bs ≡ Ok (record { code = Char b; after = 0 })
unfolding decode of_seven_bits usual read
plain_code b bs h g = search (rules, tests)

module _ (ws : List ℤ) (s : State) (b : ℕ) (h : 14 ≤ b) (g : b < 127) (begun : s.started ≡ true) where
  set_effect : (y z : ℤ) → fits32 y ≡ true → fits32 z ≡ true → set_char s b y z ≡ moved (with_x s (in_dots z)) (char_mark s.x.0 y (pos s.font) b ∷ [])
  unfolding set_char set_marks page_marks after_char with_x
  set_effect y z e f = rw (e, f, begun)

  pub set_quickly : (y v : ℤ) → fits32 (y_in s) ≡ true → y ≡ y_in s → fits32 (s.x.0 +ℤ width_in ws s b) ≡ true → v ≡ s.x.0 +ℤ width_in ws s b
      → (spacing : ℕ) (bs : List ℕ) → step ws spacing s b bs ≡ go_on (with_x s (in_dots v)) (char_mark s.x.0 y (pos s.font) b ∷ []) 0
  unfolding step after_code effect after_effect
  set_quickly y v e p f q spacing bs =
      ap (after_code ws spacing s) (plain_code b bs h g)
      ∙ ap (after_effect 0) (set_effect (y_in s) (s.x.0 +ℤ width_in ws s b) e f)
      ∙ (λ i. go_on (with_x s (in_dots (sym q i))) (char_mark s.x.0 (sym p i) (pos s.font) b ∷ []) 0)
