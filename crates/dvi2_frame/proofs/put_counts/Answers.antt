-- `dvi2_frame::put_counts` meets its contract: the number is written, and zeros fill what follows it.
-- Assumes nothing.
use Rattle.std.proofs.Common.{◌≡◌, ◌+◌, ◌-◌, ◌≤◌, refl, length, arith}
use Rattle.octets.specs.Octets.{bytes}
use Rattle.octets.specs.Write.{then, room_after}
use Rattle.octets.specs.Fill.{wrote_filled}
use Rattle.dvi2_frame.proofs.put_counts.Goals as goal
use Rattle.dvi2_frame.proofs.put_counts.Goals.{After-put_nat4-zeros}

-- there is room for the zeros
room : (c : After-put_nat4-zeros) → c.put_nat4-zeros.result + 36 ≤ length c.put_nat4-zeros.new.out
unfolding bytes
room c = room_after c.put_nat4-zeros.ensures 4 36 refl c.requires

pub overflow_add-to : goal.overflow_add-to
overflow_add-to c = omega (arith, room (goal.at.overflow_add-to c).After-put_nat4-zeros)

pub slice_bounds-fill-end : goal.slice_bounds-fill-end
slice_bounds-fill-end c = omega (arith, room (goal.at.slice_bounds-fill-end c).After-put_nat4-zeros)

pub returns : goal.returns
unfolding bytes
returns c =
    let k : c.put_nat4-zeros.result + 36 - c.put_nat4-zeros.result ≡ 36 = omega arith in
    then c.put_nat4-zeros.ensures (wrote_filled _ _ _ 36 0 _ k (c.fill.ensures.after (λ y e. e)) (room (goal.at.returns c).After-put_nat4-zeros))
