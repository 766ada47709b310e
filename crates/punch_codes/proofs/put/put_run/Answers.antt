-- `punch_codes::put::put_run` meets its contract: as long a run is filled, or counted.
-- Assumes nothing.
use mathlib.Core.Path.{◌≡◌, sym, ap}
use Prim.Native.Nat.{◌+◌, ◌-◌}
use native.Mathlib.Omega.{arith}
use lib.ListN.{length-replicate}
use Rattle.octets.specs.Write.{put_written, put_counted}
use Rattle.octets.specs.Fill.{wrote_filled}
use Rattle.punch_codes.proofs.put.put_run.Goals as goal
use Rattle.punch_codes.proofs.put.put_run.Goals.{then-writing, else-writing}

pub overflow_add-result : goal.overflow_add-result
overflow_add-result c = omega (arith, c.requires.counts, length-replicate c.args.n c.args.b)

pub returns : goal.returns
returns c =
    let a = c.args in
    let k : a.at + a.n - a.at ≡ a.n = omega arith in
    let l = length-replicate a.n a.b in
    elim c.if-writing.branch [
      | then-writing w ↦
          rw w.out-is
          (put_written w.if-writing.true (wrote_filled _ _ _ a.n a.b _ k (w.fill.ensures.after (λ y e. e)) (omega (arith, c.requires.room w.if-writing.true, l))))
      | else-writing w ↦ rw w.out-is (put_counted w.if-writing.false (ap (λ k. a.at + k) (sym l)))
    ]
