-- `dvi_step::postamble::past_name` meets its contract: the name ends at its first q, which `position` finds.
-- Assumes nothing.
use mathlib.Core.Path.{◌≡◌, sym, ap, subst, ◌∙◌}
use mathlib.Core.Bool.{cond}
use native.Mathlib.Omega.{arith}
use mathlib.Core.List.{List}
use Prim.Native.Nat.{ℕ, ◌+◌}
use lib.Dec.{eqb, ltb}
use lib.ListN.{length, drop, length-drop}
use Rattle.std.specs.Prelude.{Option, Some, None}
use Rattle.std.proofs.Common.{rules, tests}
use Rattle.std.proofs.lemmas.List.{take_rest}
use Rattle.std.proofs.lemmas.Iterator.{YieldsList-from_slice}
use Rattle.std.proofs.lemmas.Iterator.Search.{position_from_yields_List}
use Rattle.dvi.specs.Postamble.{in_name, at_id, definitions}
use Rattle.dvi_step.specs.Postamble.{Past}
use Rattle.dvi_step.proofs.Postambles.{drop_to, name_length, name_there, name_missing, position_there, position_missing}
use Rattle.dvi_step.proofs.postamble.past_name.Goals as goal
use Rattle.dvi_step.proofs.postamble.past_name.Goals.{After-position}

found : (c : After-position) → let n = name_length c.args.q (drop c.args.i c.args.s.now) in c.position.result ≡ cond (ltb n (length (drop c.args.i c.args.s.now))) (Some n) None
found c =
    subst (λ (l : List ℕ). c.position.result ≡ cond (ltb (name_length c.args.q l) (length l)) (Some (name_length c.args.q l)) None) (take_rest c.args.s.now c.args.i)
    (position_from_yields_List (λ b. eqb b c.args.q) _ _ c.position.result c.position.ensures.ran (YieldsList-from_slice _ c.iter.ensures.rest) (λ x b q k. search (rules, tests)))

pub returns-in_err-name : goal.returns-in_err-name
returns-in_err-name c =
    let a = c.args in
    let s = drop a.i a.s.now in
    let n = name_length a.q s in
    let e = found (goal.at.returns-in_err-name c).After-position in
    let m = position_missing n (length s) (sym e ∙ c.in_err-name.was) in
    subst (λ (r : Option ℕ). Past a.s.now a.i (in_name a.q) a.i r) (sym c.from_residual.ensures) (record { goes_on = λ pst. name_missing pst a.q s m; within = tt })

pub returns : goal.returns
returns c =
    let a = c.args in
    let s = drop a.i a.s.now in
    let n = name_length a.q s in
    let e = found (goal.at.returns c).After-position in
    let k = c.in_ok-name.name in
    let m = position_there k n (length s) (sym e ∙ c.in_ok-name.was) in
    let l = length-drop a.i a.s.now in
    record {
      goes_on = λ pst. name_there pst a.q s m.0 ∙ ap (definitions pst at_id) (drop_to a.s.now (n + 1) a.i (a.i + k + 1) (omega (arith, m)));
      within = (omega arith, omega (arith, m));
    }
