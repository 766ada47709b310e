-- `galley_check::leading_run` meets its contract: a run has at most 1,024 characters, so its number is taken apart.
-- Assumes nothing.
use native.Mathlib.Omega.{arith}
use Rattle.galley_check.proofs.Reading.{number_span}
use Rattle.galley_check.proofs.leading_run.Goals as goal

pub leading_items-run-requires : goal.leading_items-run-requires
leading_items-run-requires c = omega arith

pub returns : goal.returns
returns c = number_span _ 1024 _ _ (omega arith) c.leading_items-run.ensures
