use Rattle.std.specs.Prelude.{◌-◌, List, length}
use Rattle.sheet.specs.Sheet.{Mark, mark_fields}
use Rattle.octets.specs.Write.{Put}
use Rattle.xgp_step.specs.Stretch.{Ran}
use Rattle.xgp_step.proofs.stretch.set_stretch.Given as goal

abbrev pub invariant-loop-at : goal.invariant-loop-at
invariant-loop-at l =
    (ms : List Mark) × (Ran l.widths l.spacing l.file l.s l.from l.at l.x ms × Put l.writing l.initial.out l.first (mark_fields ms) l.out l.to)

abbrev pub decreases-loop-at : goal.decreases-loop-at
decreases-loop-at l = length l.file - l.at
