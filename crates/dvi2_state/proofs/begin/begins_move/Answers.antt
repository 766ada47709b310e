-- `dvi2_state::begin::begins_move` meets its contract: the opcode, and then the last bytes of the number.
-- Assumes nothing.
use mathlib.Core.Path.{◌≡◌, refl, sym, ap, ◌∙◌}
use Prim.Native.Nat.{suc, ◌+◌, ◌-◌}
use native.Mathlib.Omega.{arith}
use lib.Dec.{eqb}
use lib.ListN.{length, drop}
use Rattle.std.specs.List.{starts_with}
use Rattle.octets.specs.Octets.{signed_bytes}
use Rattle.octets.specs.OctetsLaws.{length_signed_bytes}
use Rattle.dvi2_reading.specs.PageReading.{begins}
use Rattle.integers.specs.Bits.{plain}
use Rattle.dvi2.specs.Writer.{parameter_width}
use Rattle.dvi2_state.proofs.Bytes.{tail_is, starts_begins, move_other, move_begins, over_four, drop_signed}
use Rattle.dvi2_state.proofs.begin.begins_move.Goals as goal

pub returns-then-s-at : goal.returns-then-s-at
returns-then-s-at c =
    let k = c.parameter_width-w in
    let a = c.args in
    sym (move_other a.s.now a.at a.op k.result a.m (omega arith) (k.ensures.0 ∙ ap parameter_width (plain c.ranges.m)) c.if-s-at.true)

pub returns : goal.returns
returns c =
    let k = c.parameter_width-w in
    let a = c.args in
    let fit = plain c.ranges.m in
    let w = k.result in
    let put = c.put_signed4 in
    let e : put.new.out ≡ signed_bytes 4 a.m =
    put.ensures.buffer_is ∙ over_four _ _ refl (length_signed_bytes 4 _) ∙ ap (signed_bytes 4) fit in
    let n : a.at + 1 ≡ suc a.at = omega arith in
    c.starts_with.ensures.value
    ∙ (λ i. starts_with eqb (tail_is put.new.out (4 - w) 4 (ap length e ∙ length_signed_bytes 4 a.m) i) (tail_is a.s.now (a.at + 1) (length a.s.now) refl i))
    ∙ starts_begins _ _
    ∙ (λ i. begins (drop (n i) a.s.now) (drop (4 - w) (e i)))
    ∙ ap (begins (drop (suc a.at) a.s.now)) (drop_signed a.m w k.ensures.1.1)
    ∙ sym (move_begins a.s.now a.at a.op w a.m (omega arith) (k.ensures.0 ∙ ap parameter_width fit) c.if-s-at.false)
