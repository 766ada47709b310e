-- `extents::fonts::has_font` meets its contract: its tests are those of `is_marked`.
-- Assumes nothing.
use borrow.Author.Tests.{lt-ltb, le-ltb}
use Rattle.extents.specs.FontMarks.{digit, is_marked}
use Rattle.extents.proofs.fonts.has_font.Goals as goal

pub returns-then-f-lt-MARK : goal.returns-then-f-lt-MARK
unfolding is_marked digit
returns-then-f-lt-MARK c = rw (lt-ltb _ _ c.if-f-lt-MARK.true)

pub returns-else-f-lt-MARK : goal.returns-else-f-lt-MARK
unfolding is_marked digit
returns-else-f-lt-MARK c = rw (le-ltb _ _ c.if-f-lt-MARK.false)
