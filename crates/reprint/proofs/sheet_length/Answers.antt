-- `reprint::sheet_length` meets its contract: the galley's length tells how many cuts it has.
-- Assumes nothing.
use native.Mathlib.Omega.{arith}
use Rattle.reprint.proofs.Calls.{galley_length, galley_short, sheet_size_is}
use Rattle.reprint.proofs.sheet_length.Goals as goal

pub overflow_sub-rest : goal.overflow_sub-rest
overflow_sub-rest c = omega (arith, galley_length _ _ c.requires)

pub overflow_mul-rest : goal.overflow_mul-rest
overflow_mul-rest c = omega (arith, galley_length _ _ c.requires, galley_short _ _ c.requires)

pub overflow_sub-rest-2 : goal.overflow_sub-rest-2
overflow_sub-rest-2 c = omega (arith, galley_length _ _ c.requires)

pub overflow_mul-result : goal.overflow_mul-result
overflow_mul-result c = omega (arith, galley_length _ _ c.requires, galley_short _ _ c.requires)

pub overflow_mul-result-2 : goal.overflow_mul-result-2
overflow_mul-result-2 c = omega (arith, galley_short _ _ c.requires)

pub overflow_add-result : goal.overflow_add-result
overflow_add-result c = omega (arith, galley_length _ _ c.requires, galley_short _ _ c.requires)

pub overflow_add-result-2 : goal.overflow_add-result-2
overflow_add-result-2 c = omega (arith, galley_length _ _ c.requires, galley_short _ _ c.requires)

pub returns : goal.returns
returns c = sheet_size_is _ _ c.requires
