-- `sheet::call_refusal` meets its contract: its tests are those of the definition, in the same order.
-- Assumes nothing.
use mathlib.Core.Path.{ap}
use Rattle.std.specs.Prelude.{Err}
use borrow.Author.Tests.{lt-ltb, le-ltb}
use Rattle.sheet.specs.Readable.{max_file, call_answer}
use Rattle.sheet.proofs.call_refusal.Goals as goal

pub returns-then-file-gt-MAX_FILE : goal.returns-then-file-gt-MAX_FILE
unfolding call_answer
returns-then-file-gt-MAX_FILE c = rw (lt-ltb max_file c.args.file c.if-file-gt-MAX_FILE.true) (ap Err c.at.ensures)

pub returns-then-whole : goal.returns-then-whole
unfolding call_answer
returns-then-whole c = rw (le-ltb max_file c.args.file c.if-file-gt-MAX_FILE.false, c.if-whole.true)

pub returns-else-whole : goal.returns-else-whole
unfolding call_answer
returns-else-whole c = rw (le-ltb max_file c.args.file c.if-file-gt-MAX_FILE.false, c.if-whole.false) (ap Err c.at-else-whole.ensures)
