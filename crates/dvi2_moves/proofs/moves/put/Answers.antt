-- `dvi2_moves::moves::put` meets its contract: each test is one of those of `may_come`.
-- Assumes nothing.
use mathlib.Core.Path.{sym, ◌∙◌}
use native.Mathlib.Omega.{arith}
use Rattle.dvi2_state.proofs.Searches.{no_truth}
use Rattle.dvi2_moves.proofs.CodeSteps.{p_not, p_bad, p_short, p_go}
use Rattle.dvi2_moves.proofs.moves.put.Goals as goal
use Rattle.dvi2_moves.proofs.moves.put.Goals.{then-not-before_put-via-then-not-before_put, then-not-before_put-via-else-not-before_put+then-not-valid_in, then-code-lt1-via-then-code-lt1, then-code-lt1-via-else-code-lt1+then-code-gt-LAST_CODE}

pub returns-then-not-before_put : goal.returns-then-not-before_put
returns-then-not-before_put c =
    let a = c.args in
    let p = c.requires in
    λ is l.
    p_not a.s.now a.at a.h p.0 p.1 is l
    (λ e v.
    elim c.then-not-before_put.branch [
      | then-not-before_put-via-then-not-before_put b ↦ no_truth _ e (sym c.before_put.ensures ∙ b.if-not-before_put.true)
      | then-not-before_put-via-else-not-before_put+then-not-valid_in b ↦ no_truth _ v (sym b.valid_in.ensures ∙ b.if-not-valid_in.true)
    ])

pub returns-then-s-at-lt2 : goal.returns-then-s-at-lt2
returns-then-s-at-lt2 c =
    let a = c.args in
    let p = c.requires in
    λ is l. p_short a.s.now a.at a.h p.0 p.1 is l (sym c.before_put.ensures ∙ c.if-not-before_put.false) (sym c.valid_in.ensures ∙ c.if-not-valid_in.false) c.if-s-at-lt2.true

pub returns-then-code-lt1 : goal.returns-then-code-lt1
returns-then-code-lt1 c =
    let a = c.args in
    let p = c.requires in
    λ is l.
    p_bad a.s.now a.at a.h p.0 p.1 is l (omega (arith, c.if-s-at-lt2.false))
    (λ n k.
    elim c.then-code-lt1.branch [
      | then-code-lt1-via-then-code-lt1 b ↦ omega (arith, b.if-code-lt1.true)
      | then-code-lt1-via-else-code-lt1+then-code-gt-LAST_CODE b ↦ omega (arith, b.if-code-gt-LAST_CODE.true)
    ])

pub returns : goal.returns
returns c =
    let a = c.args in
    let p = c.requires in
    λ is l. p_go a.s.now a.at a.h p.0 p.1 is l (sym c.before_put.ensures ∙ c.if-not-before_put.false) (sym c.valid_in.ensures ∙ c.if-not-valid_in.false) (omega (arith, c.if-s-at-lt2.false)) (omega (arith, c.if-code-lt1.false)) (omega (arith, c.if-code-gt-LAST_CODE.false))
