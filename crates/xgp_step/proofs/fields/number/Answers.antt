-- `xgp_step::fields::number` meets its contract: one field, and that of the page if it is due.
-- Assumes nothing.
use mathlib.Core.Path.{ap}
use native.Mathlib.Omega.{arith}
use Rattle.xgp.proofs.FileLaws.{due, length_set_marks}
use Rattle.xgp_step.proofs.fields.number.Goals as goal

pub returns-then-s : goal.returns-then-s
returns-then-s c =
    let d = ap due c.if-s.true in
    ((λ y k. omega (arith, length_set_marks c.args.s y k)), omega arith)

pub returns-else-s : goal.returns-else-s
returns-else-s c =
    let d = ap due c.if-s.false in
    ((λ y k. omega (arith, length_set_marks c.args.s y k)), omega arith)
