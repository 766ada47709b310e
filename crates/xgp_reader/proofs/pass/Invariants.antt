use Rattle.std.proofs.Common.{◌+◌, ◌-◌, List, length}
use Rattle.sheet.specs.Sheet.{Mark}
use Rattle.sheet.specs.Filled.{Filled}
use Rattle.xgp.proofs.FileLaws.{due}
use Rattle.xgp_reader.proofs.Passes.{Standing}
use Rattle.xgp_reader.proofs.pass.Given as goal

-- what the file shows so far, and the buffer that holds it
abbrev pub invariant-loop-at : goal.invariant-loop-at
invariant-loop-at l =
    (ms : List Mark) × (Standing l.widths l.spacing l.file l.s l.at ms × Filled l.writing l.initial.out l.out ms (l.at + due l.s.started) l.to l.count)

-- what is left of the file
abbrev pub decreases-loop-at : goal.decreases-loop-at
decreases-loop-at l = length l.file - l.at
