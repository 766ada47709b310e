-- Two runs that are the same, or both refused, and the runs over two codes in either order.
--     Alike                       so they are
--     alike_back, alike_then      read backward, and joined
--     alike_after                 after the same beginning
--     alike_before                with the same end
--     run_second                  the run over two codes, and refuses_second where the second is refused
--     Swapped                     the runs over two codes, in either order, are alike
-- Assumes nothing.
use Rattle.std.specs.Prelude.{◌≡◌, refl, List, [], ◌∷◌, ◌++◌, ℕ, suc, Ok, Err}
use Rattle.octets.specs.declared.refusal.Refusal.{Refusal}
use Rattle.octets.specs.declared.refusal.Reason.{Reason}
use Rattle.std.proofs.Common.{sym, ◌∙◌}
use Rattle.std.proofs.Math.Path.{ap}
use Rattle.typesetter.specs.declared.machine.State.{State}
use Rattle.typesetter.specs.declared.machine.Effect.TheVariants.{Moved}
use Rattle.typesetter.specs.Machine.{byte_effect}
use Rattle.tape.specs.Tape.{Ending, Run, run}
use Rattle.galley_file.specs.declared.item.Item.{Item}
use Rattle.tape.specs.RunLaws.{go_on}

pub data Alike (r q : Run) : Type 0 where
  same : r ≡ q → Alike r q
  refused : {m k : Refusal} → r.ending ≡ Err m → q.ending ≡ Err k → Alike r q

pub alike_back : {r q : Run} → Alike r q → Alike q r
alike_back (same e) = same (sym e)
alike_back (refused e f) = refused f e

pub alike_then : {r q o : Run} → Alike r q → Alike q o → Alike r o
alike_then (same e) (same f) = same (e ∙ f)
alike_then (same e) (refused f g) = refused (ap (λ (x : Run). x.ending) e ∙ f) g
alike_then (refused e f) (same g) = refused e (sym (ap (λ (x : Run). x.ending) g) ∙ f)
alike_then (refused e f) (refused g h) = refused e h

-- after the same beginning
pub alike_after : (is : List Item) (e : Ending) (f g : State → Run) → ((t : State) → e ≡ Ok t → Alike (f t) (g t)) → Alike (go_on is e f) (go_on is e g)
alike_after is (Ok t) f g h = go (h t refl)
  where
    go : Alike (f t) (g t) → Alike (go_on is (Ok t) f) (go_on is (Ok t) g)
    go (same e) = same (ap (λ (x : Run). record { items = is ++ x.items; ending = x.ending }) e)
    go (refused a b) = refused a b
alike_after is (Err r) f g h = same refl

-- with the same end
pub alike_before : {r q : Run} (f : State → Run) → Alike r q → Alike (go_on r.items r.ending f) (go_on q.items q.ending f)
alike_before f (same e) = same (ap (λ (x : Run). go_on x.items x.ending f) e)
alike_before {r} {q} f (refused a b) =
    refused (ap (λ (x : Ending). (go_on r.items x f).ending) a) (ap (λ (x : Ending). (go_on q.items x f).ending) b)

-- ---- the run over two codes

module _ (s : State) (at a : ℕ) where
  pub run_refuses : {r : Reason} (bs : List ℕ) → byte_effect s a ≡ Err r → (run s at (a ∷ bs)).ending ≡ Err (record { reason = r; place = at })
  unfolding run
  run_refuses bs e = rw (e, run)

  pub run_first : {t : State} (bs : List ℕ) → byte_effect s a ≡ Ok (Moved t) → run s at (a ∷ bs) ≡ run t (suc at) bs
  unfolding run
  run_first bs e = rw (e, run)

  module _ (t : State) (b : ℕ) (e : byte_effect s a ≡ Ok (Moved t)) where
    pub run_second : {u : State} → byte_effect t b ≡ Ok (Moved u) → run s at (a ∷ b ∷ []) ≡ record { items = []; ending = Ok u }
    unfolding run
    run_second f = run_first (b ∷ []) e ∙ rw (f, run)

    pub refuses_second : {r : Reason} → byte_effect t b ≡ Err r → (run s at (a ∷ b ∷ [])).ending ≡ Err (record { reason = r; place = suc at })
    unfolding run
    refuses_second f = ap (λ (x : Run). x.ending) (run_first (b ∷ []) e) ∙ rw (f, run)

abbrev pub Swapped : State → ℕ → ℕ → ℕ → Type 0
Swapped s at a b = Alike (run s at (a ∷ b ∷ [])) (run s at (b ∷ a ∷ []))

pub both_refused : (s : State) (at a b : ℕ) {r q : Reason} → byte_effect s a ≡ Err r → byte_effect s b ≡ Err q → Swapped s at a b
both_refused s at a b e f = refused (run_refuses s at a (b ∷ []) e) (run_refuses s at b (a ∷ []) f)
