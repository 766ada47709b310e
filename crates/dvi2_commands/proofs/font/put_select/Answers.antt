-- `dvi2_commands::font::put_select` meets its contract: its test is that of the definition.
-- Assumes nothing.
use borrow.Author.Tests.{lt-ltb, le-ltb}
use Rattle.dvi2.specs.Writer.{selects}
use Rattle.dvi2_commands.proofs.font.put_select.Goals as goal

pub returns-then-f-lt-FNTNUMS : goal.returns-then-f-lt-FNTNUMS
unfolding selects
returns-then-f-lt-FNTNUMS c = rw (lt-ltb _ _ c.if-f-lt-FNTNUMS.true) c.put_bytes.ensures

pub returns-else-f-lt-FNTNUMS : goal.returns-else-f-lt-FNTNUMS
unfolding selects
returns-else-f-lt-FNTNUMS c = rw (le-ltb _ _ c.if-f-lt-FNTNUMS.false) c.put_bytes-else-f-lt-FNTNUMS.ensures
