-- `sheet::show_char` meets its contract.
-- Assumes nothing.
use borrow.Author.Rules.{rules}
use Rattle.integers.specs.Bits.{plain}
use Rattle.octets.specs.Write.{named, put_written}
use Rattle.sheet.specs.Sheet.{char_mark, mark_field}
use Rattle.sheet.specs.Filled.{mark_counted}
use Rattle.sheet.proofs.show_char.Goals as goal

pub put_char-requires : goal.put_char-requires
put_char-requires c = c.requires.1 c.if-writing.true

pub returns-then-writing : goal.returns-then-writing
returns-then-writing c =
    let x = plain c.ranges.x in
    let y = plain c.ranges.y in
    let f = plain c.ranges.font in
    put_written c.if-writing.true (named (λ i. mark_field (char_mark (x i) (y i) (f i) c.args.ch)) c.put_char.ensures)

pub returns : goal.returns
returns c = let a = c.args in mark_counted (char_mark a.x a.y a.font a.ch) c.if-writing.false (search rules)
