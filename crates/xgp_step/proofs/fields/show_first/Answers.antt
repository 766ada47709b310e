-- `xgp_step::fields::show_first` meets its contract.
-- Assumes nothing.
use mathlib.Core.Path.{sym, ap}
use native.Mathlib.Omega.{arith}
use lib.IntN.{ℤ, pos}
use mir.Syntax.{w32}
use mir.Val.{SFits}
use Rattle.integers.specs.Parts.{integers}
use Rattle.integers.specs.Bits.{plain_pos}
use Rattle.sheet.specs.Sheet.{page_mark, mark_field, mark_fields}
use Rattle.octets.specs.Write.{put_named}
use Rattle.xgp_step.proofs.Puts.{put_none, put_one, page_given, page_due, page_size}
use Rattle.xgp_step.proofs.fields.show_first.Goals as goal

pub returns-then-s : goal.returns-then-s
returns-then-s c =
    let a = c.args in
    put_named (ap mark_fields (sym (page_given a.s c.if-s.true))) (put_none a.writing a.out.now a.to)

pub show_page-requires : goal.show_page-requires
show_page-requires c =
    (c.requires.0, λ w. omega (arith, c.requires.1.1 w, page_size c.args.s c.if-s.false))

pub returns : goal.returns
returns c =
    let a = c.args in
    let f : SFits w32 (pos a.s.page) = omega (integers, c.requires.1.0) in
    let p = put_one (page_mark (pos a.s.page)) (put_named (ap (λ (z : ℤ). mark_field (page_mark z)) (plain_pos f)) c.show_page.ensures) in
    put_named (ap mark_fields (sym (page_due a.s c.if-s.false))) p
