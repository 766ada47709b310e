-- `sheet::show_rule` meets its contract.
-- Assumes nothing.
use borrow.Author.Rules.{rules}
use Rattle.integers.specs.Bits.{plain}
use Rattle.octets.specs.Write.{named, put_written}
use Rattle.sheet.specs.Sheet.{rule_mark, mark_field}
use Rattle.sheet.specs.Filled.{mark_counted}
use Rattle.sheet.proofs.show_rule.Goals as goal

pub put_rule-requires : goal.put_rule-requires
put_rule-requires c = c.requires.1 c.if-writing.true

pub returns-then-writing : goal.returns-then-writing
returns-then-writing c =
    let x = plain c.ranges.x in
    let y = plain c.ranges.y in
    let h = plain c.ranges.h in
    let w = plain c.ranges.w in
    put_written c.if-writing.true (named (λ i. mark_field (rule_mark c.args.kind (x i) (y i) (h i) (w i))) c.put_rule.ensures)

pub returns : goal.returns
returns c = let a = c.args in mark_counted (rule_mark a.kind a.x a.y a.h a.w) c.if-writing.false (search rules)
