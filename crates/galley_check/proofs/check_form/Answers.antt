-- `galley_check::check_form` meets its contract: the limit decides first, and then the run of fields.
-- Assumes nothing.
use native.Mathlib.Omega.{arith}
use borrow.Author.Tests.{le-ltb, lt-ltb}
use lib.ListN.{length}
use Rattle.galley_file.specs.Form.{max_galley}
use Rattle.galley_file.specs.FormLaws.{form_sizes}
use Rattle.galley_file.specs.Galley.{read_galley}
use Rattle.galley_file.specs.Outcome.{check_outcome}
use Rattle.galley_check.proofs.check_form.Goals as goal

pub returns-then-max_galley-g : goal.returns-then-max_galley-g
unfolding check_outcome
returns-then-max_galley-g c =
    let a = c.args in
    rw (c.at.ensures, lt-ltb (max_galley a.f) (length a.g.now) (omega (arith, c.max_galley.ensures, c.if-max_galley-g.true)))

pub check_fields-requires : goal.check_fields-requires
check_fields-requires c =
    let f = c.args.f in
    (omega (arith, (form_sizes f).short, c.max_galley.ensures, c.if-max_galley-g.false), (omega arith, omega arith))

pub returns : goal.returns
unfolding check_outcome read_galley
returns c =
    let a = c.args in
    rw (le-ltb (max_galley a.f) (length a.g.now) (omega (arith, c.max_galley.ensures, c.if-max_galley-g.false))) c.check_fields.ensures
