-- `punch_codes::item::put_moving` meets its contract: sideways, and then up or down.
-- Assumes nothing.
use mathlib.Core.Path.{sym}
use mir.Syntax.{w32}
use mir.Val.{SFits}
use Rattle.integers.specs.Parts.{integers}
use Rattle.integers.specs.Bits.{plain}
use Rattle.punch_codes.specs.Codes.{escapes, leads, motion_codes, moving_codes}
use Rattle.octets.specs.Write.{put_named, put_then}
use Rattle.octets.specs.Space.{space_named, space_first, space_then}
use Rattle.punch_codes.proofs.Items.{same_motion}
use Rattle.punch_codes.proofs.item.put_moving.Goals as goal
use Rattle.punch_codes.proofs.item.put_moving.Goals.{Start}

-- what the machine's places are read as
module _ (s : Start) where
  from-x : SFits w32 s.args.s.carriage.0
  from-x = omega (integers, s.requires.0.0.carriage_in.low, s.requires.0.0.carriage_in.high)

  to-x : SFits w32 s.args.t.carriage.0
  to-x = omega (integers, s.requires.0.1.carriage_in.low, s.requires.0.1.carriage_in.high)

  from-y : SFits w32 s.args.s.height.0
  from-y = omega (integers, s.requires.0.0.height_in_lem.low, s.requires.0.0.height_in_lem.high)

  to-y : SFits w32 s.args.t.height.0
  to-y = omega (integers, s.requires.0.1.height_in_lem.low, s.requires.0.1.height_in_lem.high)

pub put_motion-to-requires : goal.put_motion-to-requires
unfolding moving_codes motion_codes
put_motion-to-requires c =
    let a = c.args in (
      (rw (plain (from-x (goal.at.put_motion-to-requires c).Start)) c.requires.0.0.carriage_in.low, rw (plain (to-x (goal.at.put_motion-to-requires c).Start)) c.requires.0.1.carriage_in.low),
      space_named (sym (same_motion escapes a.s.modes.escape_back a.t.modes.escape_back (plain (from-x (goal.at.put_motion-to-requires c).Start)) (plain (to-x (goal.at.put_motion-to-requires c).Start))))
          (space_first (motion_codes escapes a.s.modes.escape_back a.t.modes.escape_back a.s.carriage.0 a.t.carriage.0) (motion_codes leads a.s.modes.lead_back a.t.modes.lead_back a.s.height.0 a.t.height.0) c.requires.1),
    )

pub put_motion-requires : goal.put_motion-requires
unfolding moving_codes motion_codes
put_motion-requires c =
    let a = c.args in
    let p = put_named (same_motion escapes a.s.modes.escape_back a.t.modes.escape_back (plain (from-x (goal.at.put_motion-requires c).Start)) (plain (to-x (goal.at.put_motion-requires c).Start))) c.put_motion-to.ensures in (
      (rw (plain (from-y (goal.at.put_motion-requires c).Start)) c.requires.0.0.height_in_lem.low, rw (plain (to-y (goal.at.put_motion-requires c).Start)) c.requires.0.1.height_in_lem.low),
      space_named (sym (same_motion leads a.s.modes.lead_back a.t.modes.lead_back (plain (from-y (goal.at.put_motion-requires c).Start)) (plain (to-y (goal.at.put_motion-requires c).Start))))
          (space_then (motion_codes escapes a.s.modes.escape_back a.t.modes.escape_back a.s.carriage.0 a.t.carriage.0) (motion_codes leads a.s.modes.lead_back a.t.modes.lead_back a.s.height.0 a.t.height.0) p c.requires.1),
    )

pub returns : goal.returns
unfolding moving_codes motion_codes
returns c =
    let a = c.args in
    put_then (put_named (same_motion escapes a.s.modes.escape_back a.t.modes.escape_back (plain (from-x (goal.at.returns c).Start)) (plain (to-x (goal.at.returns c).Start))) c.put_motion-to.ensures)
    (put_named (same_motion leads a.s.modes.lead_back a.t.modes.lead_back (plain (from-y (goal.at.returns c).Start)) (plain (to-y (goal.at.returns c).Start))) c.put_motion.ensures)
