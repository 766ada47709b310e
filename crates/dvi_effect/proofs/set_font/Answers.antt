-- `dvi_effect::set_font` meets its contract: the flag and the number are the font.
-- Assumes nothing.
use mathlib.Core.Path.{ap}
use lib.IntN.{ℤ}
use Rattle.integers.specs.Bits.{plain}
use Rattle.dvi.specs.Page.{moved, with_font, effect}
use Rattle.dvi_page.specs.Page.{page_of}
use Rattle.dvi_effect.proofs.set_font.Goals as goal

pub returns : goal.returns
unfolding effect with_font
returns c ws l = ap (λ (f : ℤ). moved (with_font (page_of c.args.p l) f)) (plain c.ranges.f)
