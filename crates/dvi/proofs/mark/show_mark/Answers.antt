-- `dvi::mark::show_mark` meets its contract: a field for each kind of mark.
-- Assumes nothing.
use mathlib.Core.Path.{sym, ap, ◌∙◌}
use native.Mathlib.Omega.{arith}
use borrow.Author.Rules.{rules}
use mir.Syntax.{w32}
use Rattle.integers.specs.Bits.{plain}
use Rattle.sheet.specs.Sheet.{page_mark, char_mark, rule_mark, mark_field}
use Rattle.sheet.specs.SheetLaws.{field_size}
use Rattle.dvi.specs.declared.mark.Mark.{Mark}
use Rattle.dvi.specs.Mark.{mark_of}
use Rattle.octets.specs.Write.{put_named}
use Rattle.dvi.proofs.mark.show_mark.Goals as goal

pub show_page-requires : goal.show_page-requires
show_page-requires c =
    let e = ap (λ (k : Mark). field_size (mark_of k)) c.in-Start.is in
    let p = c.requires in
    (p.0, λ w. omega (arith, e, p.1 w))

pub show_char-requires : goal.show_char-requires
show_char-requires c =
    let e = ap (λ (k : Mark). field_size (mark_of k)) c.in-Char.is in
    let p = c.requires in
    (p.0, λ w. omega (arith, e, p.1 w))

pub show_rule-requires : goal.show_rule-requires
show_rule-requires c =
    let e = ap (λ (k : Mark). field_size (mark_of k)) c.in-Rule.is in
    let p = c.requires in
    (p.0, λ w. omega (arith, e, p.1 w))

pub returns-in-Start : goal.returns-in-Start
returns-in-Start c =
    let n = plain {w = w32} {z = c.in-Start.n} (search rules) in
    put_named ((λ i. mark_field (page_mark (n i))) ∙ ap (λ (k : Mark). mark_field (mark_of k)) (sym c.in-Start.is)) c.show_page.ensures

pub returns-in-Char : goal.returns-in-Char
returns-in-Char c =
    let x = plain {w = w32} {z = c.in-Char.x.0} (search rules) in
    let y = plain {w = w32} {z = c.in-Char.y.0} (search rules) in
    let f = plain {w = w32} {z = c.in-Char.font} (search rules) in
    put_named ((λ i. mark_field (char_mark (x i) (y i) (f i) c.in-Char.ch)) ∙ ap (λ (k : Mark). mark_field (mark_of k)) (sym c.in-Char.is)) c.show_char.ensures

pub returns-in-Rule : goal.returns-in-Rule
returns-in-Rule c =
    let x = plain {w = w32} {z = c.in-Rule.x.0} (search rules) in
    let y = plain {w = w32} {z = c.in-Rule.y.0} (search rules) in
    let h = plain {w = w32} {z = c.in-Rule.height.0} (search rules) in
    let w = plain {w = w32} {z = c.in-Rule.width.0} (search rules) in
    put_named ((λ i. mark_field (rule_mark c.in-Rule.kind (x i) (y i) (h i) (w i))) ∙ ap (λ (k : Mark). mark_field (mark_of k)) (sym c.in-Rule.is)) c.show_rule.ensures
