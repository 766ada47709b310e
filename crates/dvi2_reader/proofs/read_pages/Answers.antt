-- `dvi2_reader::read_pages` meets its contract: the first pass gives the length, and the second writes.
-- Assumes nothing.
use mathlib.Core.Path.{sym, subst}
use Rattle.std.specs.Prelude.{Err}
use Rattle.octets.specs.declared.refusal.Refusal.{Refusal}
use Rattle.octets.specs.Answer.{outcome_of, Gives}
use Rattle.dvi2_reading.specs.Reading.{read2_result}
use Rattle.dvi2_close.proofs.Expected.{handed_on}
use Rattle.dvi2_reader.specs.Pass.{Passed}
use Rattle.dvi2_reader.proofs.Results.{fault_gives, short_gives, no_fault, whole_gives}
use Rattle.dvi2_reader.proofs.read_pages.Goals as goal

pub returns-in_err-needed : goal.returns-in_err-needed
returns-in_err-needed c =
    let a = c.args in
    subst (λ r. Gives (outcome_of r) (read2_result a.dvi.now) a.galley.now a.galley.now) (sym (handed_on _ c.from_residual.ensures.1))
    (fault_gives _ c.requires.0 _ _ (subst (Passed _ _ _) c.in_err-needed.was c.pass.ensures))

pub returns-then-galley-needed : goal.returns-then-galley-needed
returns-then-galley-needed c =
    let a = c.args in
    subst (λ (r : Refusal). Gives (outcome_of (Err r)) (read2_result a.dvi.now) a.galley.now a.galley.now) (sym c.at.ensures)
    (short_gives _ c.requires.0 _ _ _ _ (subst (Passed _ _ _) c.in_ok-needed.was c.pass.ensures) c.if-galley-needed.true)

pub returns-in_err-pass : goal.returns-in_err-pass
returns-in_err-pass c =
    no_fault _ c.requires.0 _ _ c.args.galley.now _ (subst (Passed _ _ _) c.in_ok-needed.was c.pass.ensures) _ (subst (Passed _ _ _) c.in_err-pass.was c.pass-2.ensures)

pub returns : goal.returns
returns c = whole_gives _ c.requires.0 _ _ _ _ (subst (Passed _ _ _) c.in_ok-needed.was c.pass.ensures) _ c.pass-2.result c.pass-2.ensures c.if-galley-needed.false
