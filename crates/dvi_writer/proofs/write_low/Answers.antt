-- `dvi_writer::write_low` meets its contract: the plan gives the length of the file, and the room decides.
-- Assumes nothing.
use mathlib.Core.Path.{◌≡◌, refl}
use Prim.Native.Nat.{◌+◌, ◌*◌, ◌≤◌}
use native.Mathlib.Omega.{arith}
use lib.ListN.{length}
use Rattle.octets.specs.AnswerLaws.{gives}
use Rattle.dvi.specs.Writer.{first_writing, dvi_file}
use Rattle.dvi.proofs.WriterLaws.{items_bytes_most}
use Rattle.galley_file.specs.declared.form.Form.TheVariants.{New}
use Rattle.galley_file.specs.Galley.{items_of}
use Rattle.galley_check.specs.Accepted.{low_as}
use Rattle.dvi_writer.proofs.Galleys.{few, all_low}
use Rattle.dvi_writer.proofs.Results.{file_length, no_room, with_room}
use Rattle.dvi_writer.proofs.write_low.Goals as goal
use Rattle.dvi_writer.proofs.write_low.Goals.{After-of-p, After-count}

small : (c : After-of-p) → c.of-p.result.length ≤ 17825792
small c =
    omega (arith, c.of-p.ensures.length_is, items_bytes_most first_writing (items_of New c.args.galley.bytes.now), few c.args.galley)

needed_is : (c : After-count) → 36 + c.of-p.result.length + 14 * c.count.result ≡ length (dvi_file (items_of New c.args.galley.bytes.now))
needed_is c =
    omega (arith, c.count.ensures.0, file_length _ _ c.of-p.ensures (all_low c.args.galley))

pub overflow_add-needed : goal.overflow_add-needed
overflow_add-needed c = omega (arith, small (goal.at.overflow_add-needed c).After-of-p)

pub overflow_add-needed-2 : goal.overflow_add-needed-2
overflow_add-needed-2 c = omega (arith, small (goal.at.overflow_add-needed-2 c).After-of-p, c.count.ensures.1)

pub returns-then-out-needed : goal.returns-then-out-needed
returns-then-out-needed c =
    let a = c.args in
    let q = no_room a.galley.bytes.now a.out.now _ (low_as _ _ a.galley.low) _ (needed_is (goal.at.returns-then-out-needed c).After-count) c.if-out-needed.true in
    rw c.at.ensures (gives q refl refl)

pub put_file-requires : goal.put_file-requires
put_file-requires c =
    (c.of-p.ensures.extents_are, omega (arith, needed_is (goal.at.put_file-requires c).After-count, c.if-out-needed.false))

pub returns : goal.returns
returns c =
    with_room _ _ _ (low_as _ _ c.args.galley.low) _ (needed_is (goal.at.returns c).After-count) c.if-out-needed.false _ c.put_file.ensures
