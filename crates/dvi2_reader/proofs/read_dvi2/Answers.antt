-- `dvi2_reader::read_dvi2` meets its contract: the limit first; then the start of the file, and its pages.
-- Assumes nothing.
use mathlib.Core.Path.{sym, subst}
use mathlib.Core.List.{[]}
use Rattle.std.specs.Prelude.{Err}
use Rattle.octets.specs.declared.refusal.Refusal.{Refusal}
use Rattle.octets.specs.Answer.{outcome_of, Gives}
use Rattle.dvi2_reading.specs.Reading.{in_page, new_page_state, read2_result}
use Rattle.dvi2_close.proofs.Expected.{reads_to_standing, reads_to_fault, handed_on}
use Rattle.dvi2_reader.proofs.Results.{long_gives, fault_gives}
use Rattle.dvi2_reader.proofs.read_dvi2.Goals as goal

pub returns-then-dvi-gt-MAX_DVI2 : goal.returns-then-dvi-gt-MAX_DVI2
returns-then-dvi-gt-MAX_DVI2 c =
    let a = c.args in
    subst (λ (r : Refusal). Gives (outcome_of (Err r)) (read2_result a.dvi.now) a.galley.now a.galley.now) (sym c.at.ensures) (long_gives _ _ c.if-dvi-gt-MAX_DVI2.true)

pub returns-in_err-first : goal.returns-in_err-first
returns-in_err-first c =
    let a = c.args in
    subst (λ r. Gives (outcome_of r) (read2_result a.dvi.now) a.galley.now a.galley.now) (sym (handed_on _ c.from_residual.ensures.1))
    (fault_gives _ c.if-dvi-gt-MAX_DVI2.false _ _ (reads_to_fault _ (in_page (new_page_state [])) c.in_err-first.was c.head.ensures))

pub read_pages-requires : goal.read_pages-requires
read_pages-requires c = (c.if-dvi-gt-MAX_DVI2.false, reads_to_standing c.in_ok-first.was c.head.ensures)
