-- `dvi_effect::char_here` meets its contract: the character's place is the page's.
-- Assumes nothing.
use mathlib.Core.Path.{ap}
use lib.IntN.{ℤ}
use Rattle.integers.specs.Bits.{plain}
use Rattle.sheet.specs.Sheet.{char_mark}
use Rattle.dvi.specs.Page.{char_here}
use Rattle.dvi_effect.proofs.char_here.Goals as goal

pub returns : goal.returns
unfolding char_here
returns c l =
    let n = c.args.p.numbers in
    ap (λ (f : ℤ). char_mark n.x.0 n.y.0 f c.args.c) (plain c.ranges.f)
