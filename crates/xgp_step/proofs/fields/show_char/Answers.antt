-- `xgp_step::fields::show_char` meets its contract.
-- Assumes nothing.
use lib.IntN.{pos}
use mir.Syntax.{w32}
use Rattle.integers.specs.Bits.{plain, returned}
use Rattle.sheet.specs.Sheet.{char_mark, mark_field}
use Rattle.octets.specs.Write.{put_named}
use Rattle.xgp_step.proofs.Puts.{put_one}
use borrow.Author.Rules.{rules}
use Rattle.xgp_step.proofs.fields.show_char.Goals as goal

pub returns : goal.returns
returns c =
    let a = c.args in
    let x = plain {w = w32} {z = a.s.x.0} (search rules) in
    let y = plain {w = w32} {z = a.y.0} (search rules) in
    let e = returned w32 c.from.type_inv c.from.ensures in
    put_one (char_mark a.s.x.0 a.y.0 (pos a.s.font) a.c)
    (put_named (λ i. mark_field (char_mark (x i) (y i) (e i) a.c)) c.show_char.ensures)
