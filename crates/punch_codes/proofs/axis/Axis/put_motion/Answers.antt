-- `punch_codes::axis::Axis::put_motion` meets its contract: the direction, and the distance of the two places.
-- Assumes nothing.
use mathlib.Core.Path.{◌≡◌, sym, ap, ◌∙◌}
use lib.IntN.{nat_abs, ◌-ℤ◌}
use Rattle.integers.specs.Bits.{plain}
use Rattle.punch_codes.specs.Codes.{switch_codes, distance_codes, motion_codes}
use Rattle.octets.specs.Write.{put_named, put_then}
use Rattle.octets.specs.Space.{space_named, space_first, space_then}
use Rattle.punch_codes.proofs.axis.Axis.put_motion.Goals as goal
use Rattle.punch_codes.proofs.axis.Axis.put_motion.Goals.{After-abs_diff}

pub put_switch-next-requires : goal.put_switch-next-requires
unfolding motion_codes
put_switch-next-requires c =
    let a = c.args in
    space_first (switch_codes a.self.forward a.self.backward a.old a.new) (distance_codes a.self.longest a.self.code (nat_abs (a.to -ℤ a.from))) c.requires.1

far : (c : After-abs_diff) → c.abs_diff.result ≡ nat_abs (c.args.to -ℤ c.args.from)
far c = let f = c.ranges in c.abs_diff.ensures ∙ (λ i. nat_abs (plain f.to i -ℤ plain f.from i))

pub put_distance-requires : goal.put_distance-requires
unfolding motion_codes
put_distance-requires c =
    let a = c.args in
    space_named (ap (distance_codes a.self.longest a.self.code) (sym (far c)))
    (space_then (switch_codes a.self.forward a.self.backward a.old a.new) (distance_codes a.self.longest a.self.code (nat_abs (a.to -ℤ a.from))) c.put_switch-next.ensures c.requires.1)

pub returns : goal.returns
unfolding motion_codes
returns c =
    let a = c.args in
    put_then c.put_switch-next.ensures (put_named (ap (distance_codes a.self.longest a.self.code) (far (goal.at.returns c).After-abs_diff)) c.put_distance.ensures)
