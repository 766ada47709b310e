-- `xgp::state::State::set_char` meets its contract: y, then the width, and the move to the right.
-- Assumes nothing.
use Rattle.std.specs.Prelude.{◌≡◌, true, ℤ, ◌+ℤ◌}
use Rattle.std.proofs.Common.{refl, ap, ◌∙◌, w32, rules}
use mir.Val.{to_z, of_z}
use Rattle.integers.specs.Bits.{plain, returned}
use Rattle.octets.specs.Octets.{fits32}
use Rattle.octets.specs.ReachLaws.{reach_to, reach_off}
use Rattle.xgp.specs.State.{y_in, width_in, after_char}
use Rattle.xgp.specs.Effect.{effect_of}
use Rattle.xgp.proofs.States.{char_to, char_off, y_off}
use Rattle.xgp.proofs.state.State.set_char.Goals as goal
use Rattle.xgp.proofs.state.State.set_char.Goals.{After-sum}

-- where the character is to be followed
module _ (c : After-sum) where
  abbrev to : ℤ
  to = c.args.self.x.0 +ℤ width_in c.args.widths.now c.args.self c.args.c

  to_is : to_z w32 (of_z w32 c.args.self.x.0) +ℤ to_z w32 (of_z w32 c.width_of.result) ≡ to
  unfolding width_in
  to_is = let w = returned w32 c.width_of.type_inv c.width_of.ensures in let x = plain {w = w32} {z = c.args.self.x.0} (search rules) in λ i. x i +ℤ w i

  y_fits : (fits32 (y_in c.args.self) ≡ true) × (c.in_ok-y.y ≡ y_in c.args.self)
  y_fits = reach_to (y_in c.args.self) c.y_in.ensures refl c.in_ok-y.was

pub returns-in_err-y : goal.returns-in_err-y
returns-in_err-y c =
    let a = c.args in
    ap (effect_of a.self) c.from_residual.ensures
    ∙ y_off a.self (a.self.x.0 +ℤ width_in a.widths.now a.self a.c) a.c (y_in a.self) (reach_off (y_in a.self) c.y_in.ensures refl c.in_err-y.was)

pub returns-in_err-x : goal.returns-in_err-x
returns-in_err-x c =
    let a = c.args in
    let p = (goal.at.returns-in_err-x c).After-sum in
    ap (effect_of a.self) c.from_residual-in_err-x.ensures
    ∙ char_off a.self (to p) a.c (y_in a.self) (y_fits p).0 (reach_off (to p) c.sum.ensures (to_is p) c.in_err-x.was)

pub returns : goal.returns
unfolding after_char
returns c =
    let a = c.args in
    let p = (goal.at.returns c).After-sum in
    let k = reach_to (to p) c.sum.ensures (to_is p) c.in_ok-x.was in
    let y = plain {w = w32} {z = c.in_ok-y.y} (search rules) ∙ (y_fits p).1 in
    rw y (char_to a.self (to p) a.c (y_in a.self) (y_fits p).0 k.0 (plain {w = w32} {z = c.in_ok-x.x} (search rules) ∙ k.1))
