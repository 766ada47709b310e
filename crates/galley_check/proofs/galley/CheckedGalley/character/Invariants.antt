use Rattle.std.proofs.Common.{◌≡◌, ◌+◌, length}
use Rattle.galley_file.specs.Item.{characters_of}
use Rattle.galley_check.proofs.galley.CheckedGalley.character.Given as goal

abbrev pub invariant-loop-item : goal.invariant-loop-item
invariant-loop-item l = length (characters_of l.yielded) + l.left ≡ l.n
