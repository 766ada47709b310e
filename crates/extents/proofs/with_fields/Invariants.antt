use Rattle.std.proofs.Common.{◌≡◌}
use Rattle.galley_file.specs.Item.{characters_of}
use Rattle.extents.specs.Extents.{with_characters}
use Rattle.extents.proofs.with_fields.Given as goal

abbrev pub invariant-loop-item : goal.invariant-loop-item
invariant-loop-item l = l.e ≡ with_characters l.fn.first (characters_of l.yielded)
