-- `spatecanter::sp_reprint` meets its contract: it hands over the numbers of the answer, and demand 3 with them.
-- Assumes nothing.
use borrow.Author.Rules.{rules}
use Rattle.spatecanter.proofs.sp_reprint.Goals as goal

pub returns : goal.returns
returns c = record {
  for_file = _;
  for_sheet = _;
  numbers_are = c.numbers.ensures;
  reprints = c.reprint.ensures;
}
