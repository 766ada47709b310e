-- `xgp_step::step` meets its contract: the code is decoded, and its effect taken.
-- Assumes nothing.
use Rattle.std.specs.Prelude.{◌≡◌, Option, Result, ok_or, Err}
use Rattle.std.proofs.Common.{refl, sym, ap, ◌∙◌}
use Rattle.octets.specs.declared.refusal.Reason.{Reason}
use Rattle.octets.specs.declared.refusal.Reason.TheVariants.{OutOf32Bits}
use Rattle.octets.specs.AnswerLaws.{handed_on}
use Rattle.xgp.specs.declared.state.Effect.{Effect}
use Rattle.xgp.specs.Effect.{effect_of}
use Rattle.xgp.specs.File.{after_effect, after_code, step}
use Rattle.xgp_step.specs.declared.Stepped.{Stepped}
use Rattle.xgp_step.specs.Step.{step_of}
use Rattle.xgp_step.proofs.step.Goals as goal

-- one reason, whatever was to be
err_is : {k l : Reason} → ◌≡◌ {A = Result Effect Reason} (Err k) (Err l) → ◌≡◌ {A = Result Stepped Reason} (Err l) (Err k)
err_is {k} {l} e = let h : l ≡ k = cc in ap Err h

pub returns-in_err-decoded : goal.returns-in_err-decoded
unfolding step after_code
returns-in_err-decoded c =
    let a = c.args in
    ap (step_of a.s) (handed_on {x = Err c.in_err-decoded.field-0.0} c.from_residual.ensures.1 refl)
    ∙ ap (after_code a.widths.now a.spacing a.s) c.in_err-decoded.ensures

pub returns-in_err-ok_or : goal.returns-in_err-ok_or
unfolding step after_code after_effect
returns-in_err-ok_or c =
    let a = c.args in
    let n = c.in_ok-decoded.decoded.after in
    let none = c.in_err-ok_or.ensures.ok_part in
    let k = err_is (c.in_err-ok_or.ensures.value ∙ ap (λ (o : Option Effect). ok_or o OutOf32Bits) none) in
    ap (step_of a.s) (handed_on {x = Err OutOf32Bits} c.from_residual-in_err-ok_or.ensures.1 k)
    ∙ ap (λ (o : Option Effect). after_effect n (effect_of a.s o)) (sym none)
    ∙ ap (after_effect n) c.effect_of-effect.ensures
    ∙ ap (after_code a.widths.now a.spacing a.s) c.in_ok-decoded.ensures

pub returns : goal.returns
unfolding step after_code
returns c =
    let a = c.args in
    let n = c.in_ok-decoded.decoded.after in
    ap (λ (o : Option Effect). after_effect n (effect_of a.s o)) (sym c.in_ok-ok_or.ensures.ok_part)
    ∙ ap (after_effect n) c.effect_of-effect.ensures
    ∙ ap (after_code a.widths.now a.spacing a.s) c.in_ok-decoded.ensures
