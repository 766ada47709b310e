-- `dvi2_moves::moves::height_at` meets its contract: t is not negative, and three times a height.
-- Assumes nothing.
use mathlib.Core.Path.{◌∙◌}
use Prim.Native.Nat.{◌/◌}
use native.Mathlib.Omega.{arith}
use lib.IntN.{pos, nat_abs}
use mir.Syntax.{w32}
use mir.Val.{SFits}
use Rattle.integers.specs.Parts.{integers, non_neg_by, bounds, abs_parts}
use Rattle.integers.specs.Bits.{plain, plain_pos}
use Rattle.dvi2_moves.proofs.CodeSteps.{down_height}
use Rattle.dvi2_moves.proofs.moves.height_at.Goals as goal

pub overflow_cast-result : goal.overflow_cast-result
overflow_cast-result c =
    let t = c.args.t in
    let d = down_height t c.requires in
    rw (plain c.ranges.t) (non_neg_by t (omega (integers, d.0)), omega (integers, bounds c.ranges.t, abs_parts t))

pub overflow_cast-result-2 : goal.overflow_cast-result-2
overflow_cast-result-2 c = let d = down_height c.args.t c.requires in rw (plain c.ranges.t) (omega (arith, d.1.0))

pub returns : goal.returns
returns c =
    let t = c.args.t in
    let d = down_height t c.requires in
    let f : SFits w32 (pos (nat_abs t / 3)) = omega (integers, d.1.0) in
    rw (plain c.ranges.t) (plain_pos f ∙ d.1.1)
