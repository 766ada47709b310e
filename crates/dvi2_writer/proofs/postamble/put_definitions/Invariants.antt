use Rattle.extents.specs.FontMarks.{marked_fonts}
use Rattle.dvi2.specs.Writer.{definition_bytes}
use Rattle.octets.specs.PutIfRoom.{PutIfRoom}
use Rattle.dvi2_writer.proofs.postamble.put_definitions.Given as goal

abbrev pub invariant-loop-f : goal.invariant-loop-f
invariant-loop-f l = PutIfRoom l.initial.out l.at (definition_bytes (marked_fonts l.f l.fonts.low l.fonts.high)) l.out l.to
