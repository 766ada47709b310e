-- `punch_codes::axis::Axis::put_distance` meets its contract: a distance shorter than the longest motion is its remainder; else the longest motions, and the remainder after them.
-- Assumes nothing.
use mathlib.Core.Path.{sym}
use Prim.Native.Nat.{◌/◌, ◌%◌, ◌<◌}
use native.Mathlib.Nat.{mod-lt, div-le_self}
use native.Mathlib.Omega.{arith}
use lib.ListN.{replicate}
use Rattle.octets.specs.Write.{put_named, put_then}
use Rattle.octets.specs.Space.{space_named, space_first, space_then}
use Rattle.punch_codes.specs.Codes.{remainder_codes, distance_codes}
use Rattle.punch_codes.proofs.Sends.{distance_short}
use Rattle.punch_codes.proofs.axis.Axis.put_distance.Goals as goal
use Rattle.punch_codes.proofs.axis.Axis.put_distance.Goals.{Then-n-each}

short : (c : Then-n-each) → c.args.n < c.args.self.longest
short c = omega (arith, c.if-n-each.true)

pub overflow_cast-n : goal.overflow_cast-n
overflow_cast-n c = omega (arith, short (goal.at.overflow_cast-n c).Then-n-each)

pub put_remainder-requires : goal.put_remainder-requires
put_remainder-requires c =
    let a = c.args in
    (omega (arith, short (goal.at.put_remainder-requires c).Then-n-each), space_named (distance_short a.self.longest a.self.code a.n (short (goal.at.put_remainder-requires c).Then-n-each)) c.requires)

pub returns-then-n-each : goal.returns-then-n-each
returns-then-n-each c =
    let a = c.args in
    put_named (sym (distance_short a.self.longest a.self.code a.n (short (goal.at.returns-then-n-each c).Then-n-each))) c.put_remainder.ensures

pub overflow_cast-n-2 : goal.overflow_cast-n-2
overflow_cast-n-2 c = let a = c.args in omega (arith, div-le_self a.n a.self.longest)

pub put_run-to-requires : goal.put_run-to-requires
unfolding distance_codes
put_run-to-requires c =
    let a = c.args in
    space_first (replicate (a.n / a.self.longest) a.self.code) (remainder_codes a.self.longest a.self.code (a.n % a.self.longest)) c.requires

pub overflow_cast-n-3 : goal.overflow_cast-n-3
overflow_cast-n-3 c = omega (arith, mod-lt c.args.n c.args.self.moves)

pub put_remainder-requires-2 : goal.put_remainder-requires-2
unfolding distance_codes
put_remainder-requires-2 c =
    let a = c.args in (
      omega (arith, mod-lt a.n a.self.moves),
      space_then (replicate (a.n / a.self.longest) a.self.code) (remainder_codes a.self.longest a.self.code (a.n % a.self.longest)) c.put_run-to.ensures c.requires,
    )

pub returns : goal.returns
unfolding distance_codes
returns c = put_then c.put_run-to.ensures c.put_remainder-2.ensures
