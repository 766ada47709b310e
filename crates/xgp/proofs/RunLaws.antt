-- What holds of every run over a file.
--     null_skipped     a null changes nothing
--     run_all          an induction over the codes of a file
-- Assumes nothing.
use Rattle.std.specs.Prelude.{◌≡◌, refl, ℤ, Result, Ok, Err}
use Rattle.std.proofs.Math.Path.{subst}
use mathlib.Core.List.{List, [], ◌∷◌, ◌++◌}
use Prim.Native.Nat.{ℕ, zero, suc}
use Rattle.std.proofs.Common.{suc-ne-zero}
use Rattle.sheet.specs.Sheet.{Mark}
use Rattle.sheet.specs.Shown.{Shown, refused_at, shows, shows_first}
use Rattle.sheet.specs.ShownLaws.{shows_first_nil}
use Rattle.xgp_code.specs.Code.{of_seven_bits, usual, read, decode}
use Rattle.xgp_code.specs.CodeLaws.{InPart, Known, decode_known}
use Rattle.xgp.specs.State.{Effect, fault, moved, effect}
use Rattle.xgp.specs.File.{Step, refuse, go_on, after_effect, after_code, step, follow, run}
use Rattle.xgp_code.specs.declared.Code.{Code}
use Rattle.xgp_code.specs.declared.Decoded.{Decoded}
use Rattle.octets.specs.declared.refusal.Reason.{Reason}
use Rattle.xgp.specs.declared.state.State.{State}

-- ---- "Null - byte is ignored"

pub null_skipped : (ws : List ℤ) (spacing at : ℕ) (s : State) (bs : List ℕ) → run ws spacing at s 0 (0 ∷ bs) ≡ run ws spacing (suc at) s 0 bs
unfolding run follow step decode of_seven_bits usual read after_code effect after_effect
null_skipped ws spacing at s bs = shows_first_nil (run ws spacing (suc at) s 0 bs)

-- ---- an induction over the codes of a file

module _ (ws : List ℤ) (spacing : ℕ) (P : State → List Mark → Type 0) where
  -- what holds of the marks after a code holds of those from it on
  abbrev pub HoldsFrom : State → Effect → Type 0
  HoldsFrom s (fault r) = Unit {0}
  HoldsFrom s (moved t ns) = (ks : List Mark) → P t ks → P s (ns ++ ks)

  module _ (none : (s : State) → P s []) (onward : (s : State) (c : Code) → InPart c → HoldsFrom s (effect ws spacing s c)) where
    abbrev Steps : State → Step → Type 0
    Steps s (refuse r) = Unit {0}
    Steps s (go_on t ns n) = (ks : List Mark) → P t ks → P s (ns ++ ks)

    after_effect_lem : (s : State) (n : ℕ) (e : Effect) → HoldsFrom s e → Steps s (after_effect n e)
    unfolding after_effect
    after_effect_lem s n (fault r) h = tt
    after_effect_lem s n (moved t ns) h = h

    after_code_lem : (s : State) (d : Result Decoded Reason) → Known d → Steps s (after_code ws spacing s d)
    unfolding after_code
    after_code_lem s (Err r) h = tt
    after_code_lem s (Ok d) h = after_effect_lem s d.after (effect ws spacing s d.code) (onward s d.code h)

    steps : (s : State) (b : ℕ) (bs : List ℕ) → Steps s (step ws spacing s b bs)
    unfolding step
    steps s b bs = after_code_lem s (decode b bs) (decode_known b bs)

    joined : (s t : State) (ns : List Mark) (r : Shown) (ms : List Mark) → ((ks : List Mark) → P t ks → P s (ns ++ ks)) → ((ks : List Mark) → r ≡ shows ks → P t ks) → shows_first ns r ≡ shows ms → P s ms
    unfolding shows_first
    joined s t ns (refused_at k at) ms f g e = absurd (suc-ne-zero 0 cc)
    joined s t ns (shows ks) ms f g e = let d : ns ++ ks ≡ ms = cc in subst (P s) d (f ks (g ks refl))

    followed : (s : State) (at : ℕ) (k : Step) (rest : State → ℕ → Shown) (ms : List Mark) → Steps s k → ((t : State) (n : ℕ) (ks : List Mark) → rest t n ≡ shows ks → P t ks) → follow at k rest ≡ shows ms → P s ms
    unfolding follow
    followed s at (refuse r) rest ms h g e = absurd (suc-ne-zero 0 cc)
    followed s at (go_on t ns n) rest ms h g e = joined s t ns (rest t n) ms h (g t n) e

    pub run_all : (bs : List ℕ) (at n : ℕ) (s : State) (ms : List Mark) → run ws spacing at s n bs ≡ shows ms → P s ms
    unfolding run
    run_all [] at n s ms e = let d : [] ≡ ms = cc in subst (P s) d (none s)
    run_all (b ∷ bs) at (suc n) s ms e = run_all bs (suc at) n s ms e
    run_all (b ∷ bs) at zero s ms e =
        followed s at (step ws spacing s b bs) (λ t n. run ws spacing (suc at) t n bs) ms (steps s b bs) (λ t n ks q. run_all bs (suc at) n t ks q) e
