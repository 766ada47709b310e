-- The code's step as that of the definitions.
use Rattle.std.specs.Prelude.{Some, Result, Ok, Err}
use Rattle.octets.specs.Answer.{number_in}
use Rattle.octets.specs.declared.refusal.Reason.{Reason}
use Rattle.xgp.specs.Effect.{effect_of}
use Rattle.xgp.specs.File as S
use Rattle.xgp.specs.declared.state.State.{State}
use Rattle.xgp_step.specs.declared.Stepped.{Stepped}

-- on the state s
abbrev pub step_of : State → Result Stepped Reason → S.Step
step_of s (Err r) = S.refuse (number_in r)
step_of s (Ok t) = S.after_effect t.after (effect_of s (Some t.effect))
