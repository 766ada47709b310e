use Rattle.octets.specs.Write.{Wrote}
use Rattle.galley_file.specs.Galley.{fields}
use Rattle.conversion.proofs.put_items.Given as goal

abbrev pub invariant-loop-item : goal.invariant-loop-item
invariant-loop-item l = Wrote l.initial.out 0 (fields l.to l.yielded) l.out l.next
