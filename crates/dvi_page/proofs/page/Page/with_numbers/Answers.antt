-- `dvi_page::page::Page::with_numbers` meets its contract: the numbers are others, the font and the stack as they were.
-- Assumes nothing.
use mathlib.Core.Path.{ap}
use borrow.Author.Rules.{rules}
use lib.IntN.{ℤ}
use mir.Syntax.{w32}
use Rattle.integers.specs.Bits.{plain}
use Rattle.dvi.specs.Page.{with_numbers}
use Rattle.dvi_page.specs.Stack.{six_numbers, stack_of}
use Rattle.dvi_page.specs.Page.{font_if_set}
use Rattle.dvi_page.proofs.page.Page.with_numbers.Goals as goal

pub returns : goal.returns
unfolding with_numbers
returns c l =
    let p = c.args.self in
    ap (λ (f : ℤ). record { numbers = six_numbers c.args.numbers; font = font_if_set p.has_font f; stack = stack_of l p.depth }) (plain {w = w32} {z = p.font} (search rules))
