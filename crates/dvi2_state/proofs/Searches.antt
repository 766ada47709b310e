-- The search for a move that begins with the last bytes of a file.
-- Assumes nothing.
use mathlib.Core.Path.{◌≡◌, refl, sym, ap, ◌∙◌}
use mathlib.Core.Bool.{Bool, true, false, not, ◌&&◌, ◌||◌}
use mathlib.Core.List.{List}
use Prim.Native.Nat.{ℕ, zero, suc, ◌+◌, ◌≤◌, ◌<◌}
use native.Mathlib.Nat.{add-zero, suc-ne-zero}
use native.Mathlib.Omega.{arith}
use lib.IntN.{ℤ, pos, negsuc, ◌-ℤ◌}
use lib.Signed.{◌≤ℤ◌}
use mir.Syntax.{w32}
use mir.Val.{SFits}
use Rattle.std.specs.List.{list_any, range_with_len}
use Rattle.integers.specs.Parts.{integers, dif_parts}
use Rattle.integers.specs.Equality.{eq_z, eq_z_true, true_eq_z}
use Rattle.measure.specs.Target.{entry_x}
use Rattle.dvi.specs.Writer.{Position}
use Rattle.dvi2.specs.Command.{RIGHT1, DOWN1}
use Rattle.dvi2.specs.Writer.{shortest}
use Rattle.dvi2_reading.specs.PageReading.{begins, some_below, valid_in}
use Rattle.dvi2_reading.specs.Reading.{places, heights}
use Rattle.dvi2_state.specs.Page.{right_begins, down_begins}

-- ---- no move, and a move

pub false_right : (t : Bool) → (t && false) ≡ false
false_right true = refl
false_right false = refl

pub true_right : (t : Bool) → (t && true) ≡ t
true_right true = refl
true_right false = refl

pub no_truth : {X : Type 0} (t : Bool) → t ≡ true → t ≡ false → X
no_truth t e f = let z : true ≡ false = sym e ∙ f in absurd (suc-ne-zero 0 cc)

pub no_move : (m : ℤ) → m ≡ pos 0 → not (eq_z m (pos 0)) ≡ false
no_move m e = rw (true_eq_z m (pos 0) e)

pub a_move : (m : ℤ) → (m ≡ pos 0 → ⊥) → not (eq_z m (pos 0)) ≡ true
a_move m n = go (eq_z m (pos 0)) refl
  where
    go : (t : Bool) → eq_z m (pos 0) ≡ t → not t ≡ true
    go true e = absurd (n (eq_z_true m (pos 0) e))
    go false e = refl

module _ (s : List ℕ) (p : Position) (to : ℤ) where
  pub still_down : to -ℤ p.y ≡ pos 0 → false ≡ down_begins s p to
  unfolding down_begins
  still_down e = sym (rw (no_move (to -ℤ p.y) e) (false_right (begins s (shortest DOWN1 (to -ℤ p.y)))))

  pub moves_down : (to -ℤ p.y ≡ pos 0 → ⊥) → begins s (shortest DOWN1 (to -ℤ p.y)) ≡ down_begins s p to
  unfolding down_begins
  moves_down n = sym (rw (a_move (to -ℤ p.y) n) (true_right (begins s (shortest DOWN1 (to -ℤ p.y)))))

  pub still_right : to -ℤ p.x ≡ pos 0 → false ≡ right_begins s p to
  unfolding right_begins
  still_right e = sym (rw (no_move (to -ℤ p.x) e) (false_right (begins s (shortest RIGHT1 (to -ℤ p.x)))))

  module _ (n : to -ℤ p.x ≡ pos 0 → ⊥) where
    pub outside : valid_in p.font to ≡ false → false ≡ right_begins s p to
    unfolding right_begins
    outside e = sym (rw (a_move (to -ℤ p.x) n, e) (false_right (begins s (shortest RIGHT1 (to -ℤ p.x)))))

    pub moves_right : valid_in p.font to ≡ true → begins s (shortest RIGHT1 (to -ℤ p.x)) ≡ right_begins s p to
    unfolding right_begins
    moves_right e = sym (rw (a_move (to -ℤ p.x) n, e) (true_right (begins s (shortest RIGHT1 (to -ℤ p.x)))))

-- ---- the search of numbers from a on

or_false : (t : Bool) → (t || false) ≡ t
or_false true = refl
or_false false = refl

or_over : (t u v : Bool) → (t || (u || v)) ≡ ((t || u) || v)
or_over true u v = refl
or_over false u v = refl

or_swap : (t u : Bool) → (t || u) ≡ (u || t)
or_swap true true = refl
or_swap true false = refl
or_swap false u = sym (or_false u)

any_more : (q : ℕ → Bool) (a n : ℕ) → list_any q (range_with_len a (suc n)) ≡ (list_any q (range_with_len a n) || q (a + n))
any_more q a zero = or_false (q a) ∙ ap q (omega arith)
any_more q a (suc n) =
    ap (λ (t : Bool). q a || t) (any_more q (a + 1) n)
    ∙ or_over (q a) (list_any q (range_with_len (a + 1) n)) (q (a + 1 + n))
    ∙ ap (λ (k : ℕ). (q a || list_any q (range_with_len (a + 1) n)) || q k) (omega arith)

none_below : (n : ℕ) (p : ℕ → Bool) → ((k : ℕ) → k < n → p k ≡ false) → some_below n p ≡ false
unfolding some_below
none_below zero p f = refl
none_below (suc n) p f = rw (f n (omega arith), none_below n p (λ k l. f k (omega arith))) refl

pub any_below : (a n : ℕ) (p q : ℕ → Bool) → ((k : ℕ) → k < a → p k ≡ false) → ((k : ℕ) → a ≤ k → k < a + n → q k ≡ p k)
    → list_any q (range_with_len a n) ≡ some_below (a + n) p
unfolding some_below
any_below a zero p q f g = sym (ap (λ (m : ℕ). some_below m p) (add-zero a) ∙ none_below a p f)
any_below a (suc n) p q f g =
    let e : a + suc n ≡ suc (a + n) = omega arith in
    any_more q a n
    ∙ (λ i. any_below a n p q f (λ k l m. g k l (omega arith)) i || g (a + n) (omega arith) (omega arith) i)
    ∙ or_swap (some_below (a + n) p) (p (a + n))
    ∙ ap (λ (m : ℕ). some_below m p) (sym e)

-- ---- the places, counted

-- a place across, counted from -55
pub count_fits : (k : ℕ) → k < heights → SFits w32 (pos k)
count_fits k l = record { sfits = omega arith }

pub place_between : (k : ℕ) → k < places → (negsuc 54 ≤ℤ entry_x k) × (entry_x k ≤ℤ pos 3239)
place_between k l = (omega (integers, dif_parts (pos k) (pos 55)), omega (integers, dif_parts (pos k) (pos 55)))

pub place_fits : (k : ℕ) → k < places → SFits w32 (entry_x k)
place_fits k l = omega (integers, dif_parts (pos k) (pos 55))
