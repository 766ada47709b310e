-- `dvi_galley::item::page_of` meets its contract: the two numbers are compared in 64 bits.
-- Assumes nothing.
use mathlib.Core.Path.{ap, ◌∙◌}
use mir.Syntax.{w64}
use mir.Val.{of_z}
use Rattle.integers.specs.Bits.{plain, wide, same_bits}
use Rattle.integers.specs.Equality.{true_eq_z, false_eq_z}
use Rattle.dvi_galley.proofs.item.page_of.Goals as goal

pub overflow_cast-n : goal.overflow_cast-n
overflow_cast-n c = rw (plain c.ranges.n) (wide c.ranges.n)

pub returns-then-n-next : goal.returns-then-n-next
returns-then-n-next c =
    let f = c.ranges in
    rw (true_eq_z c.args.n c.args.next (same_bits {w = w64} (wide f.n) f.next (rw (plain f.n) at c.if-n-next.true)))

pub returns-else-n-next : goal.returns-else-n-next
returns-else-n-next c =
    let f = c.ranges in
    rw (false_eq_z c.args.n c.args.next (λ e. c.if-n-next.false (ap (of_z w64) (plain f.n ∙ e))))
