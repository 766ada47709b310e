-- The code's effects as those of the definitions.
use Rattle.std.specs.Prelude.{[], Option, Some, None}
use Rattle.octets.specs.Answer.{out_of32_bits}
use Rattle.xgp.specs.State as S
use Rattle.xgp.specs.declared.state.State.{State}
use Rattle.xgp.specs.declared.state.Effect.{Effect}
use Rattle.xgp.specs.declared.state.Effect.TheVariants.{Moved, Set}

-- on the state s; none: a number leaves 32 bits
abbrev pub effect_of : State → Option Effect → S.Effect
effect_of s None = S.fault out_of32_bits
effect_of s (Some (Moved t)) = S.moved t []
effect_of s (Some (Set t y c)) = S.moved t (S.set_marks s y.0 c)
