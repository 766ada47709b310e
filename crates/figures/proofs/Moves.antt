-- The moves of a run: on bytes cut in two, and one code more.
-- Assumes nothing.
use Rattle.std.specs.Prelude.{Ok, Err}
use Rattle.std.proofs.Common.{◌≡◌, ℕ, suc, ◌+◌, ◌<◌, List, [], ◌∷◌, ◌++◌, length, get_or, take, refl, ap, ◌∙◌, append-nil, add-one, arith, take-suc}
use Rattle.galley_file.specs.declared.item.Item.{Item}
use Rattle.typesetter.specs.declared.machine.State.{State}
use Rattle.typesetter.specs.declared.machine.Effect.TheVariants.{Moved, Flashed, PageEnded}
use Rattle.typesetter.specs.Machine.{Step, byte_effect}
use Rattle.tape.specs.Tape.{Ending, run}
use Rattle.tape.specs.RunLaws.{fault_never, Sets, flashed, page_ended}
use Rattle.figures.specs.Figures.{Move, taken, moves, total}

reached_same : {s t : State} → ◌≡◌ {A = Ending} (Ok s) (Ok t) → s ≡ t
reached_same e = cc

pub moves_append : (s : State) (at : ℕ) (xs ys : List ℕ) {t : State} → (run s at xs).ending ≡ Ok t → moves s (xs ++ ys) ≡ moves s xs ++ moves t ys
unfolding run moves
moves_append s at [] ys e = ap (λ (u : State). moves u ys) (reached_same e)
moves_append s at (b ∷ xs) ys {t} e = go (λ u. moves_append u (suc at) xs ys) (byte_effect s b) refl
  where
    go : ((u : State) → (run u (suc at) xs).ending ≡ Ok t → moves u (xs ++ ys) ≡ moves u xs ++ moves t ys) → (x : Step) → byte_effect s b ≡ x → moves s (b ∷ (xs ++ ys)) ≡ moves s (b ∷ xs) ++ moves t ys
    go later (Ok (Moved u)) q = rw (q, moves) (ap (λ (l : List Move). taken s b ∷ l) (later u (rw (q, run) at e)))
    go later (Ok (Flashed c)) q = rw (q, moves) (later s (rw (q, run) at e))
    go later (Ok (PageEnded u)) q = rw (q, moves) (later u (rw (q, run) at e))
    go later (Err n) q = let f : Err (record { reason = n; place = at }) ≡ Ok t = rw (q, run) at e in fault_never f

pub total_append : (f : Move → ℕ) (xs ys : List Move) → total f (xs ++ ys) ≡ total f xs + total f ys
unfolding total
total_append f [] ys = omega arith
total_append f (x ∷ xs) ys = omega (arith, total_append f xs ys)

-- one code after a prefix of i bytes
module _ (s₀ : State) (at : ℕ) (tape : List ℕ) (i : ℕ) (s : State) (ran : (run s₀ at (take i tape)).ending ≡ Ok s) (h : i < length tape) where
  one_more : moves s₀ (take (i + 1) tape) ≡ moves s₀ (take i tape) ++ moves s (get_or tape i 0 ∷ [])
  one_more = ap (λ (n : ℕ). moves s₀ (take n tape)) (add-one i) ∙ ap (moves s₀) (take-suc tape i 0 h) ∙ moves_append s₀ at (take i tape) (get_or tape i 0 ∷ []) ran

  pub total_moved : {t : State} → byte_effect s (get_or tape i 0) ≡ Ok (Moved t) → (f : Move → ℕ) → total f (moves s₀ (take (i + 1) tape)) ≡ total f (moves s₀ (take i tape)) + f (taken s (get_or tape i 0))
  unfolding total moves
  total_moved q f =
      let b = get_or tape i 0 in
      let one : moves s (b ∷ []) ≡ taken s b ∷ [] = rw (q, moves) in
      ap (total f) (one_more ∙ ap (λ (l : List Move). moves s₀ (take i tape) ++ l) one) ∙ total_append f (moves s₀ (take i tape)) (taken s b ∷ []) ∙ omega arith

  pub total_set : {e : Step} {x : Item} {t : State} → byte_effect s (get_or tape i 0) ≡ e → Sets s e x t → (f : Move → ℕ) → total f (moves s₀ (take (i + 1) tape)) ≡ total f (moves s₀ (take i tape))
  unfolding moves
  total_set q flashed f = ap (total f) (one_more ∙ ap (λ (l : List Move). moves s₀ (take i tape) ++ l) (rw (q, moves)) ∙ append-nil (moves s₀ (take i tape)))
  total_set q page_ended f = ap (total f) (one_more ∙ ap (λ (l : List Move). moves s₀ (take i tape) ++ l) (rw (q, moves)) ∙ append-nil (moves s₀ (take i tape)))
