use Rattle.octets.specs.Write.{Wrote}
use Rattle.extents.specs.FontMarks.{marked_fonts}
use Rattle.dvi.specs.Writer.{definition_bytes}
use Rattle.dvi_frame.proofs.postamble.put_definitions.Given as goal

abbrev pub invariant-loop-f : goal.invariant-loop-f
invariant-loop-f l = Wrote l.initial.out l.at (definition_bytes (marked_fonts l.f l.fonts.low l.fonts.high)) l.out l.to
