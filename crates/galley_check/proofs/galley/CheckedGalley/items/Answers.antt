-- The bytes before End are the run of the items' fields.
use Rattle.std.proofs.Common.{arith}
use Rattle.galley_file.specs.declared.form.Form.TheVariants.{New}
use Rattle.galley_file.specs.FieldsLaws.{galley_long, galley_run}
use Rattle.galley_check.specs.Accepted.{accepted_as}
use Rattle.galley_check.proofs.galley.CheckedGalley.items.Goals as goal

pub slice_bounds-result-count : goal.slice_bounds-result-count
slice_bounds-result-count c = let g = c.args.self in omega (arith, galley_long New g.bytes.now g.count (accepted_as _ _ _ g.accepted))

pub invariant_of-result : goal.invariant_of-result
invariant_of-result c =
    let g = c.args.self in
    record { whole = (galley_run New g.bytes.now g.count (accepted_as _ _ _ g.accepted) g.fields).1 }

pub returns : goal.returns
returns c =
    let g = c.args.self in
    (galley_run New g.bytes.now g.count (accepted_as _ _ _ g.accepted) g.fields).0
