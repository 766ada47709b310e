-- `measure::directed` meets its contract: a byte fits, and so does its negative.
-- Assumes nothing.
use mathlib.Core.Bool.{true, false}
use lib.IntN.{+ℤ_idl}
use mir.Syntax.{w32}
use Rattle.integers.specs.Parts.{integers}
use Rattle.integers.specs.Bits.{plain, plain_pos}
use Rattle.measure.specs.Place.{directed_by}
use Rattle.measure.specs.PlaceLaws.{directed_fits}
use Rattle.measure.proofs.directed.Goals as goal

pub returns-then-backward : goal.returns-then-backward
unfolding directed_by
returns-then-backward c =
    let n = c.args.by in
    rw (plain_pos {w = w32} (directed_fits false n (omega integers)), +ℤ_idl, plain (directed_fits true n (omega integers)), c.if-backward.true)

pub returns-else-backward : goal.returns-else-backward
unfolding directed_by
returns-else-backward c =
    let n = c.args.by in
    rw (plain_pos {w = w32} (directed_fits false n (omega integers)), c.if-backward.false)
