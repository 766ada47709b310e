use Rattle.std.proofs.Common.{◌≡◌, length}
use Rattle.std.proofs.Math.Option.{none}
use Rattle.galley_file.specs.declared.form.Form.TheVariants.{New}
use Rattle.galley_file.specs.Galley.{fields}
use Rattle.galley_check.specs.Low.{first_high}
use Rattle.galley_check.proofs.galley.LowGalley.of.Given as goal

abbrev pub invariant-loop-item : goal.invariant-loop-item
invariant-loop-item l = (l.at ≡ length (fields New l.yielded)) × (first_high l.yielded 0 ≡ none)
