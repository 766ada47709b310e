-- `extents::fonts::with_font` meets its contract: one of the marks has the font's digit.
-- Assumes nothing.
use mathlib.Core.Path.{refl}
use native.Mathlib.Omega.{arith}
use borrow.Author.Tests.{lt-ltb, le-ltb}
use Rattle.extents.specs.FontMarks.{mark_low, mark_high}
use Rattle.extents.proofs.fonts.with_font.Goals as goal

pub returns-then-f-lt-MARK : goal.returns-then-f-lt-MARK
unfolding mark_low mark_high
returns-then-f-lt-MARK c = simp (lt-ltb c.args.f 64 (omega arith)) (c.with_digit.ensures, refl)

pub returns-else-f-lt-MARK : goal.returns-else-f-lt-MARK
unfolding mark_low mark_high
returns-else-f-lt-MARK c = simp (le-ltb c.args.f 64 (omega arith)) (refl, c.with_digit-else-f-lt-MARK.ensures)
