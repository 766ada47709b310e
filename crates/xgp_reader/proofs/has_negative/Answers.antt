-- `xgp_reader::has_negative` meets its contract: `any` and the definition decide the same.
-- Assumes nothing.
use Rattle.std.specs.Prelude.{◌≡◌, ℕ, ◌<◌, Bool, true, false, List, ℤ, pos, length}
use Rattle.std.specs.Int.Signed.{lt_z}
use Rattle.std.specs.List.{HoldsAt, AllWithin}
use Rattle.std.proofs.Common.{refl, sym, ◌∙◌, Decides, MatchBool, arith, rules, tests}
use Rattle.std.proofs.lemmas.Iterator.{cases_from_any, YieldsList-from_slice}
use Rattle.std.proofs.lemmas.Bool.{false≢true}
use Rattle.std.proofs.lemmas.Bool.Decides.{same_from_decides, Decides-by_or}
use Rattle.xgp.specs.Sheet.{any_negative}
use Rattle.xgp_reader.proofs.has_negative.Goals as goal

abbrev Negative : ℤ → Type 0
Negative z = lt_z z (pos 0) ≡ true

abbrev Positive : ℤ → Type 0
Positive z = lt_z z (pos 0) ≡ false

abbrev HasNegative : List ℤ → Type 0
HasNegative ws = (k : ℕ) × (k < length ws) × HoldsAt Negative ws k

decides : (r : Bool) (ws : List ℤ) → MatchBool r (HasNegative ws) (AllWithin Positive ws 0 (length ws)) → Decides r (HasNegative ws)
decides true ws h = (λ _. h, λ _. refl)
decides false ws h =
    (λ e. absurd (false≢true e), λ w. absurd (false≢true (sym (h w.0 (pos 0) (omega arith) w.1) ∙ w.2 (pos 0))))

pub returns : goal.returns
unfolding any_negative
returns c =
    let ws = c.args.widths.now in
    let by_call = cases_from_any _ _ _ Negative Positive c.any.ensures.ran (YieldsList-from_slice ws cc) (λ x q k. search (rules, tests)) (λ x q k. search (rules, tests)) in
    let by_spec = Decides-by_or (λ (z : ℤ). lt_z z (pos 0)) Negative any_negative (λ z. (λ e. e, λ e. e)) refl (λ _ _. refl) ws in
    same_from_decides _ (any_negative ws) (decides _ ws by_call) by_spec
