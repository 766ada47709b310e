-- `punch_codes::item::flash_for` meets its contract.
-- Assumes nothing.
use borrow.Author.Tests.{lt-ltb, le-ltb}
use Rattle.punch_codes.specs.Codes.{flash_for}
use Rattle.punch_codes.proofs.item.flash_for.Goals as goal

pub returns-then-code-gt-LOWER_HALF : goal.returns-then-code-gt-LOWER_HALF
unfolding flash_for
returns-then-code-gt-LOWER_HALF c = rw (lt-ltb 63 c.args.code c.if-code-gt-LOWER_HALF.true)

pub returns-else-code-gt-LOWER_HALF : goal.returns-else-code-gt-LOWER_HALF
unfolding flash_for
returns-else-code-gt-LOWER_HALF c = rw (le-ltb 63 c.args.code c.if-code-gt-LOWER_HALF.false)
