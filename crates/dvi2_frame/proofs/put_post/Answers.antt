-- `dvi2_frame::put_post` meets its contract: three times the greatest height, and the farthest x.
-- Assumes nothing.
use lib.IntN.{pos, ◌*ℤ◌}
use mir.Syntax.{w32}
use mir.Val.{SFits}
use Rattle.integers.specs.Parts.{integers, scale_parts}
use Rattle.integers.specs.Bits.{plain}
use Rattle.extents.specs.declared.Extents.{Extents}
use Rattle.dvi2_frame.specs.Frame.{Ranged}
use Rattle.dvi2_frame.proofs.put_post.Goals as goal

x_fits : (e : Extents) → Ranged e → SFits w32 e.x.0
x_fits e r = omega (integers, r.left, r.right)

height-fits : (e : Extents) → Ranged e → SFits w32 e.height.0
height-fits e r = omega (integers, r.low, r.high)

times-fits : (e : Extents) → Ranged e → SFits w32 (pos 3 *ℤ e.height.0)
times-fits e r = omega (integers, r.low, r.high, scale_parts 3 e.height.0)

pub overflow_mul-height : goal.overflow_mul-height
overflow_mul-height c = rw (plain (height-fits c.args.e c.requires.1)) (times-fits c.args.e c.requires.1)

pub put_numbers-requires : goal.put_numbers-requires
put_numbers-requires c = c.requires.0

pub returns : goal.returns
returns c =
    let e = c.args.e in
    let r = c.requires.1 in
    rw (plain (height-fits e r), plain (times-fits e r), plain (x_fits e r)) at c.put_numbers.ensures
