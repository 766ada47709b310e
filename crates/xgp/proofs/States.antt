-- Moves that stay in signed 32 bits, and moves that leave them.
-- Assumes nothing.
use mathlib.Core.Path.{◌≡◌, ap}
use mathlib.Core.Bool.{true, false}
use mathlib.Core.List.{[]}
use Prim.Native.Nat.{ℕ}
use lib.IntN.{ℤ}
use Rattle.octets.specs.Octets.{fits32}
use Rattle.octets.specs.Answer.{out_of32_bits}
use Rattle.xgp_code.specs.Measure.{in_dots, in_lines}
use Rattle.xgp.specs.State.{fault, moved, with_x, with_baseline, after_char, set_marks, to_x, to_baseline, set_char}
use Rattle.xgp.specs.declared.state.State.{State}

-- the effects of moves to z
module _ (s : State) (z : ℤ) where
  pub x_to : {v : ℤ} → fits32 z ≡ true → v ≡ z → moved (with_x s (in_dots v)) [] ≡ to_x s z
  unfolding to_x
  x_to h e = rw h (ap (λ (u : ℤ). moved (with_x s (in_dots u)) []) e)

  pub x_off : fits32 z ≡ false → fault out_of32_bits ≡ to_x s z
  unfolding to_x
  x_off h = rw h

  pub baseline_to : {v : ℤ} → fits32 z ≡ true → v ≡ z → moved (with_baseline s (in_lines v)) [] ≡ to_baseline s z
  unfolding to_baseline
  baseline_to h e = rw h (ap (λ (u : ℤ). moved (with_baseline s (in_lines u)) []) e)

  pub baseline_off : fits32 z ≡ false → fault out_of32_bits ≡ to_baseline s z
  unfolding to_baseline
  baseline_off h = rw h

  module _ (c : ℕ) (y : ℤ) where
    pub char_to : {v : ℤ} → fits32 y ≡ true → fits32 z ≡ true → v ≡ z → moved (after_char s (in_dots v)) (set_marks s y c) ≡ set_char s c y z
    unfolding set_char
    char_to f h e = rw (f, h) (ap (λ (u : ℤ). moved (after_char s (in_dots u)) (set_marks s y c)) e)

    pub char_off : fits32 y ≡ true → fits32 z ≡ false → fault out_of32_bits ≡ set_char s c y z
    unfolding set_char
    char_off f h = rw (f, h)

    pub y_off : fits32 y ≡ false → fault out_of32_bits ≡ set_char s c y z
    unfolding set_char
    y_off h = rw h
