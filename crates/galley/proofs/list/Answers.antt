-- `galley::list` meets its contract: what is accepted has room, so it is a part of the buffer.
-- Assumes nothing.
use mathlib.Core.Path.{sym, ap, ◌∙◌}
use Prim.Native.Nat.{◌≤◌}
use native.Mathlib.Omega.{arith}
use lib.ListN.{length}
use Rattle.octets.specs.Answer.{outcome_of}
use Rattle.tape.specs.TapeLaws.{tape_room}
use Rattle.galley.proofs.list.Given.{Over}
use Rattle.galley.proofs.list.Goals as goal
use Rattle.galley.proofs.list.Goals.{In-Ok}

-- the length accepted is at most the buffer's
fits : (g : Over) (c : In-Ok g) → c.in-Ok.length ≤ length c.read_tape.new.galley
fits g c =
    let r = c.read_tape in
    let a = c.args in
    let h = tape_room a.tape.now 8 (length a.galley.now) c.in-Ok.length (sym (ap outcome_of c.in-Ok.is) ∙ r.ensures.outcome_is) in
    omega (arith, h, r.auto.galley)

pub slice_bounds-write_galley-end : goal.slice_bounds-write_galley-end
slice_bounds-write_galley-end g c = fits g c
