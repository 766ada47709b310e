-- `sheet::show_page` meets its contract.
-- Assumes nothing.
use borrow.Author.Rules.{rules}
use Rattle.integers.specs.Bits.{plain}
use Rattle.octets.specs.Write.{named, put_written}
use Rattle.sheet.specs.Sheet.{page_mark, mark_field}
use Rattle.sheet.specs.Filled.{mark_counted}
use Rattle.sheet.proofs.show_page.Goals as goal

pub put_page-requires : goal.put_page-requires
put_page-requires c = c.requires.1 c.if-writing.true

pub returns-then-writing : goal.returns-then-writing
returns-then-writing c =
    let n = plain c.ranges.n in
    put_written c.if-writing.true (named (λ i. mark_field (page_mark (n i))) c.put_page.ensures)

pub returns : goal.returns
returns c = let a = c.args in mark_counted (page_mark a.n) c.if-writing.false (search rules)
