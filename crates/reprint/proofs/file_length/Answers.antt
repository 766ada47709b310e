-- `reprint::file_length` meets its contract: accepted or refused, the writer names the file's length.
-- Assumes nothing.
use mathlib.Core.Path.{sym, ap, ◌∙◌}
use lib.ListN.{length}
use Rattle.octets.specs.Octets.{Bytes}
use Rattle.octets.specs.Answer.{outcome_of}
use Rattle.reprint.proofs.Calls.{same_file, accepted_file, refused_file}
use Rattle.reprint.proofs.file_length.Goals as goal

pub returns-in-Err : goal.returns-in-Err
returns-in-Err c =
    let a = c.args in
    let g = a.galley.now in
    let k : Bytes g = λ i. (c.type_inv.galley i).fits in
    let e = sym c.requires in
    let q = sym (ap outcome_of c.in-Err.is) ∙ c.write_dvi.ensures.outcome_is in
    (refused_file g a.count k e 1 _ _ q).1.0 ∙ ap length (same_file g a.count k e)

pub returns-in-Ok : goal.returns-in-Ok
returns-in-Ok c =
    let a = c.args in
    let g = a.galley.now in
    let k : Bytes g = λ i. (c.type_inv.galley i).fits in
    let e = sym c.requires in
    let q = sym (ap outcome_of c.in-Ok.is) ∙ c.write_dvi.ensures.outcome_is in
    accepted_file g a.count k e 1 _ q ∙ ap length (same_file g a.count k e)
