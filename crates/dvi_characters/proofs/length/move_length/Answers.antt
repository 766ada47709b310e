-- `dvi_characters::length::move_length` meets its contract: a byte, and as many as the move's width.
-- Assumes nothing.
use mathlib.Core.Path.{sym, ap, ◌∙◌}
use Prim.Native.Nat.{ℕ, ◌+◌}
use native.Mathlib.Omega.{arith}
use borrow.Author.Rules.{rules}
use lib.ListN.{length}
use mir.Syntax.{w32}
use mir.Val.{SFits}
use Rattle.integers.specs.Bits.{plain}
use Rattle.octets.specs.Octets.{width_of}
use Rattle.dvi_characters.proofs.Moves.{move_none, length_some}
use Rattle.dvi_characters.proofs.length.move_length.Goals as goal

pub returns-then-z-eq0 : goal.returns-then-z-eq0
returns-then-z-eq0 c =
    let f : SFits w32 c.args.m.0 = search rules in
    (sym (ap length (move_none _ f 0 c.if-z-eq0.true)), omega arith)

pub returns-else-z-eq0 : goal.returns-else-z-eq0
returns-else-z-eq0 c =
    let f : SFits w32 c.args.m.0 = search rules in
    let w = c.signed_width.ensures in
    (ap (λ (k : ℕ). 1 + k) (w.0 ∙ ap width_of (plain f)) ∙ sym (length_some _ f 0 c.if-z-eq0.false), omega (arith, w.1.1))
