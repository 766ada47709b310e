-- `dvi2_turn::turn::to_page` meets its contract: the bop of the page after this one, by the tally.
-- Assumes nothing.
use mathlib.Core.Path.{ap, ◌∙◌}
use lib.IntN.{pos}
use mir.Syntax.{w32}
use mir.Val.{SFits}
use Rattle.integers.specs.Parts.{integers}
use Rattle.integers.specs.Bits.{plain_pos}
use Rattle.dvi2.specs.Writer.{bop_bytes}
use Rattle.dvi2_turn.proofs.Turns.{page_reads_to}
use Rattle.dvi2_turn.proofs.turn.to_page.Goals as goal

pub returns : goal.returns
returns c =
    let a = c.args in
    let s = a.dvi.now in
    let f : SFits w32 (pos a.t.bop) = omega (integers, c.requires.1.bop_small) in
    λ is k l j. page_reads_to s a.at a.t is k c.requires.0.0 j c.requires.0.1 l _ (c.bop-e.ensures ∙ ap (bop_bytes _) (plain_pos f)) _ c.expect.ensures
