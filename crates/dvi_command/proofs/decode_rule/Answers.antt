-- `dvi_command::decode_rule` meets its contract: two parameters of four bytes.
-- Assumes nothing.
use mathlib.Core.Path.{sym, ap, ◌∙◌}
use mathlib.Core.List.{List}
use Prim.Native.Nat.{ℕ}
use mir.Syntax.{w32}
use Rattle.integers.specs.Bits.{returned}
use Rattle.dvi_command.specs.Command.{read_of}
use native.Mathlib.Omega.{arith}
use lib.ListN.{take, drop, length-drop}
use lib.Seq.{drop-drop}
use Rattle.octets.specs.Octets.{signed}
use Rattle.dvi_command.proofs.Commands.{decode_rule_cut, decode_vert, decode_horz, second_of}
use borrow.Author.Rules.{rules}
use Rattle.dvi_command.proofs.decode_rule.Goals as goal

pub returns-then-s-at-lt8 : goal.returns-then-s-at-lt8
returns-then-s-at-lt8 c =
    let a = c.args in
    let l = length-drop a.at a.s.now in
    ap read_of (decode_rule_cut a.op (drop a.at a.s.now) (omega arith) (omega arith) (omega arith))

pub returns-then-op-eq-VERTRULE : goal.returns-then-op-eq-VERTRULE
returns-then-op-eq-VERTRULE c =
    let a = c.args in
    let l = length-drop a.at a.s.now in
    c.whole.ensures ∙ ap read_of (decode_vert (drop a.at a.s.now) (omega arith) _ _
    (returned w32 c.signed4_at.type_inv c.signed4_at.ensures)
    (returned w32 c.signed4_at-2.type_inv c.signed4_at-2.ensures ∙ ap (λ (l : List ℕ). signed (take 4 l)) (sym (drop-drop 4 a.at a.s.now)))
    a.op c.if-op-eq-VERTRULE.true)

pub returns-else-op-eq-VERTRULE : goal.returns-else-op-eq-VERTRULE
returns-else-op-eq-VERTRULE c =
    let a = c.args in
    let l = length-drop a.at a.s.now in
    c.whole-else-op-eq-VERTRULE.ensures ∙ ap read_of (decode_horz (drop a.at a.s.now) (omega arith) _ _
    (returned w32 c.signed4_at.type_inv c.signed4_at.ensures)
    (returned w32 c.signed4_at-2.type_inv c.signed4_at-2.ensures ∙ ap (λ (l : List ℕ). signed (take 4 l)) (sym (drop-drop 4 a.at a.s.now)))
    a.op (second_of 134 a.op (search rules) (search rules) c.if-op-eq-VERTRULE.false))
