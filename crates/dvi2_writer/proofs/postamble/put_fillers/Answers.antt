-- `dvi2_writer::postamble::put_fillers` meets its contract. Some of the bytes 223 are written; what is left before the end falls.
-- Assumes nothing.
use native.Mathlib.Omega.{arith}
use Rattle.dvi2_writer.proofs.Postambles.{filled_start, filled_more, filled_end}
use Rattle.dvi2_writer.proofs.postamble.put_fillers.Goals as goal

pub overflow_add-end : goal.overflow_add-end
overflow_add-end c = omega (arith, c.requires)

pub overflow_sub-end : goal.overflow_sub-end
overflow_sub-end c = omega arith

pub overflow_add-end-2 : goal.overflow_add-end-2
overflow_add-end-2 c = omega (arith, c.requires)

pub loop-to-init : goal.loop-to-init
loop-to-init c = filled_start _ _ _ (omega arith)

pub put_bytes-to-requires : goal.put_bytes-to-requires
put_bytes-to-requires c = omega (arith, c.requires, c.loop-to-test.true)

pub loop-to-smaller : goal.loop-to-smaller
loop-to-smaller c = omega (arith, c.loop-to-test.true, c.put_bytes-to.ensures.next_is)

pub loop-to-preserved : goal.loop-to-preserved
loop-to-preserved c = filled_more _ _ _ _ _ c.loop-to.invariant c.loop-to-test.true _ _ c.put_bytes-to.ensures

pub shape_of-out : goal.shape_of-out
shape_of-out c = c.loop-to.invariant.puts.same_length

pub returns : goal.returns
returns c = filled_end _ _ _ _ c.loop-to.invariant c.loop-to-test.false
