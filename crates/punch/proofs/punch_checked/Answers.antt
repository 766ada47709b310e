-- `punch::punch_checked` meets its contract: the first pass writes nothing and gives the length, which decides.
-- Assumes nothing.
use native.Mathlib.Nat.{suc-ne-zero}
use native.Mathlib.Omega.{arith}
use Rattle.octets.specs.Write.{put_length}
use Rattle.galley_check.specs.Accepted.{accepted_as}
use Rattle.punch.proofs.Passes.{punch_long, punch_no_room, punch_room}
use Rattle.punch.proofs.punch_checked.Goals as goal

pub pass-needed-requires : goal.pass-needed-requires
pass-needed-requires c = λ e. absurd (suc-ne-zero 0 cc)

pub returns-then-needed-gt-MAX_TAPE : goal.returns-then-needed-gt-MAX_TAPE
returns-then-needed-gt-MAX_TAPE c = rw c.at.ensures (punch_long _ _ (accepted_as _ _ _ c.args.galley.accepted) _ _ _ c.pass-needed.ensures (omega (arith, c.if-needed-gt-MAX_TAPE.true)))

pub returns-then-out-needed : goal.returns-then-out-needed
returns-then-out-needed c = let p = c.pass-needed.ensures in rw c.at-then-out-needed.ensures (punch_no_room _ _ (accepted_as _ _ _ c.args.galley.accepted) _ _ _ p (omega (arith, c.if-needed-gt-MAX_TAPE.false)) (omega (arith, c.if-out-needed.true, put_length p)))

pub pass-requires : goal.pass-requires
pass-requires c = let p = c.pass-needed.ensures in λ e. omega (arith, c.if-out-needed.false, p.place)

pub returns : goal.returns
returns c =
    let p = c.pass-needed.ensures in
    punch_room _ _ (accepted_as _ _ _ c.args.galley.accepted) _ _ _ p (omega (arith, c.if-needed-gt-MAX_TAPE.false)) (omega (arith, c.if-out-needed.false, put_length p)) _ _ c.pass.ensures
