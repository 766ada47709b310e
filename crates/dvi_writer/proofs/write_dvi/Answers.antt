-- `dvi_writer::write_dvi` meets its contract: what the check refuses is refused, and a checked galley is written.
-- Assumes nothing.
use mathlib.Core.Path.{refl, ap, ◌∙◌}
use lib.ListN.{length}
use Rattle.std.specs.Prelude.{Err}
use Rattle.std.proofs.lemmas.Result.{err_from_is_err_and}
use Rattle.octets.specs.Answer.{outcome_of}
use Rattle.octets.specs.AnswerLaws.{gives}
use Rattle.dvi_writer.proofs.Results.{check_refused}
use Rattle.dvi_writer.proofs.write_dvi.Goals as goal

pub returns-in_err-of : goal.returns-in_err-of
returns-in_err-of c =
    let a = c.args in
    let e = rw c.in_err-of.was at c.of.ensures in
    let q = err_from_is_err_and c.from_residual.result c.from_residual.ensures.1 in
    gives (check_refused a.galley.now (length a.dvi.now) _ _ e) (ap outcome_of (q.1 ∙ ap Err q.2)) refl

pub returns : goal.returns
returns c =
    let e = rw c.in_ok-of.was at c.of.ensures in
    rw e at c.write_low.ensures
