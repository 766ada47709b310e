-- The stack in the array, after the stores of a PUSH; PUSH and POP, by how high it is.
-- Assumes nothing.
use mathlib.Core.Path.{◌≡◌, refl, sym, ap, ◌∙◌}
use mathlib.Core.List.{List, [], ◌∷◌, ◌++◌, append_assoc}
use mathlib.Core.Option.{Option}
use Prim.Native.Nat.{ℕ, zero, suc, ◌+◌, ◌*◌, ◌-◌, ◌≤◌, ◌<◌}
use native.Mathlib.Numerals.{add-one}
use native.Mathlib.Omega.{arith}
use borrow.Author.Tests.{lt-ltb, le-ltb}
use lib.IntN.{ℤ, pos}
use lib.ListN.{length, get_or, set, take, drop}
use lib.Seq.{get_or-set_other, get_or-append-add, sets-eq, length-take-le}
use Rattle.octets.specs.Answer.{stack_full}
use Rattle.dvi.specs.Page.{max_stack, Numbers, Page, fault, moved, pushed, popped}
use Rattle.dvi_page.specs.Stack.{entry_at, stack_of}

-- six numbers, one by one
pub numbers : {a b c d e f a' b' c' d' e' f' : ℤ} → a ≡ a' → b ≡ b' → c ≡ c' → d ≡ d' → e ≡ e' → f ≡ f'
    → ◌≡◌ {A = Numbers} (record { x_at = a; y_at = b; amount_w = c; amount_x = d; amount_y = e; amount_z = f }) (record { x_at = a'; y_at = b'; amount_w = c'; amount_x = d'; amount_y = e'; amount_z = f' })
numbers p q r s t u = λ i. record { x_at = p i; y_at = q i; amount_w = r i; amount_x = s i; amount_y = t i; amount_z = u i }

-- a store above the entries leaves them
stack_set : (d : ℕ) (l : List ℤ) (i : ℕ) (a : ℤ) → 6 * d ≤ i → stack_of (set l i a) d ≡ stack_of l d
unfolding stack_of
stack_set zero l i a h = refl
stack_set (suc d) l i a h =
    let other : (j : ℕ) → j < i → get_or (set l i a) j (pos 0) ≡ get_or l j (pos 0) = λ j k. get_or-set_other l i j a (pos 0) (λ e. omega arith) in
    let top = numbers (other (6 * d) (omega arith)) (other (6 * d + 1) (omega arith)) (other (6 * d + 2) (omega arith)) (other (6 * d + 3) (omega arith)) (other (6 * d + 4) (omega arith)) (other (6 * d + 5) (omega arith)) in
    (λ k. top k ∷ stack_set d l i a (omega arith) k)

module _ (l : List ℤ) (d : ℕ) (h : 6 * d + 6 ≤ length l) (a b c e f g : ℤ) where
  abbrev pub stored : List ℤ
  stored = set (set (set (set (set (set l (6 * d) a) (6 * d + 1) b) (6 * d + 2) c) (6 * d + 3) e) (6 * d + 4) f) (6 * d + 5) g

  abbrev six : List ℤ
  six = a ∷ b ∷ c ∷ e ∷ f ∷ g ∷ []

  stored_is : stored ≡ take (6 * d) l ++ (six ++ drop (6 * d + 6) l)
  stored_is =
      let e1 : 6 * d + 1 ≡ suc (6 * d) = omega arith in
      let e2 : 6 * d + 2 ≡ suc (suc (6 * d)) = omega arith in
      let e3 : 6 * d + 3 ≡ suc (suc (suc (6 * d))) = omega arith in
      let e4 : 6 * d + 4 ≡ suc (suc (suc (suc (6 * d)))) = omega arith in
      let e5 : 6 * d + 5 ≡ suc (suc (suc (suc (suc (6 * d))))) = omega arith in
      rw (e1, e2, e3, e4, e5) (sets-eq six l (6 * d) h ∙ append_assoc (take (6 * d) l) six (drop (6 * d + 6) l))

  at : (k : ℕ) → get_or stored (6 * d + k) (pos 0) ≡ get_or (six ++ drop (6 * d + 6) l) k (pos 0)
  at k =
      let n : length (take (6 * d) l) ≡ 6 * d = length-take-le (6 * d) l (omega arith) in
      rw (stored_is) (
      ap (λ (m : ℕ). get_or (take (6 * d) l ++ (six ++ drop (6 * d + 6) l)) (m + k) (pos 0)) (sym n)
      ∙ get_or-append-add (take (6 * d) l) (six ++ drop (6 * d + 6) l) k (pos 0)
      )

  first : get_or stored (6 * d) (pos 0) ≡ a
  first = ap (λ (m : ℕ). get_or stored m (pos 0)) (omega arith) ∙ at 0

  below : stack_of stored d ≡ stack_of l d
  below =
      stack_set d _ (6 * d + 5) g (omega arith)
      ∙ stack_set d _ (6 * d + 4) f (omega arith)
      ∙ stack_set d _ (6 * d + 3) e (omega arith)
      ∙ stack_set d _ (6 * d + 2) c (omega arith)
      ∙ stack_set d _ (6 * d + 1) b (omega arith)
      ∙ stack_set d l (6 * d) a (omega arith)

  pub stored_stack : stack_of stored (d + 1) ≡ record { x_at = a; y_at = b; amount_w = c; amount_x = e; amount_y = f; amount_z = g } ∷ stack_of l d
  unfolding stack_of
  stored_stack = rw (add-one d) (λ k. numbers first (at 1) (at 2) (at 3) (at 4) (at 5) k ∷ below k)

pub stack_top : (l : List ℤ) (d : ℕ) → 0 < d → stack_of l d ≡ entry_at l (d - 1) ∷ stack_of l (d - 1)
unfolding stack_of
stack_top l zero h = absurd (omega arith)
stack_top l (suc d) h = let e : suc d - 1 ≡ d = omega arith in rw e

-- ---- PUSH and POP

module _ (p : Page) where
  pub push_full : max_stack ≤ length p.stack → fault stack_full ≡ pushed p
  unfolding pushed
  push_full h = rw (le-ltb (length p.stack) max_stack h)

  pub push_room : {q : List Numbers} → length p.stack < max_stack → q ≡ p.numbers ∷ p.stack → moved (record { numbers = p.numbers; font = p.font; stack = q }) ≡ pushed p
  unfolding pushed
  push_room h e = rw (lt-ltb (length p.stack) max_stack h) (ap (λ (s : List Numbers). moved (record { numbers = p.numbers; font = p.font; stack = s })) e)

  pub pop_one : {n : Numbers} {q : List Numbers} {f : Option ℤ} {m : Numbers} {s : List Numbers} → s ≡ n ∷ q → m ≡ n → f ≡ p.font → moved (record { numbers = m; font = f; stack = q }) ≡ popped p s
  unfolding popped
  pop_one {q = q} e d g = rw e (λ i. moved (record { numbers = d i; font = g i; stack = q }))
