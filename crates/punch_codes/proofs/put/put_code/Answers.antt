-- `punch_codes::put::put_code` meets its contract.
-- Assumes nothing.
use native.Mathlib.Omega.{arith}
use Rattle.punch_codes.proofs.put.put_code.Goals as goal

pub bounds-out-at : goal.bounds-out-at
bounds-out-at c = omega (arith, c.requires.room c.if-writing.true)
