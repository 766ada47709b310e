-- `reprint::reprint` meets its contract: the table of widths decides first, then the check; what the call gives is the reprint, so demand 3 holds of it.
-- Assumes nothing.
use mathlib.Core.Path.{sym, ap, ◌∙◌}
use borrow.Author.Rules.{rules}
use lib.ListN.{length}
use Rattle.octets.specs.Octets.{Bytes}
use Rattle.octets.specs.Answer.{outcome_of}
use Rattle.reprint.specs.ReprintLaws.{not_whole, refused_galley}
use Rattle.reprint.proofs.Calls.{refuses, claims}
use Rattle.reprint.proofs.reprint.Goals as goal

pub returns-then-widths-ne0 : goal.returns-then-widths-ne0
returns-then-widths-ne0 c =
    let a = c.args in
    let g = a.galley.now in
    let k : Bytes g = λ i. (c.type_inv.galley i).fits in
    rw c.at.ensures (claims g a.widths.now a.dvi.now a.sheet.now k
    (refuses g a.widths.now a.dvi.now a.sheet.now (not_whole g a.widths.now (length a.dvi.now) (length a.sheet.now) c.if-widths-ne0.true)))

pub reprint_checked-requires : goal.reprint_checked-requires
reprint_checked-requires c =
    (sym (ap outcome_of c.in_ok-count.was) ∙ c.check_low.ensures, c.if-widths-ne0.false)

pub returns-in_err-count : goal.returns-in_err-count
returns-in_err-count c =
    let a = c.args in
    let g = a.galley.now in
    let k : Bytes g = λ i. (c.type_inv.galley i).fits in
    let q = sym (sym (ap outcome_of c.in_err-count.was) ∙ c.check_low.ensures) in
    let same = claims g a.widths.now a.dvi.now a.sheet.now k
    (refuses g a.widths.now a.dvi.now a.sheet.now (refused_galley g a.widths.now c.if-widths-ne0.false (length a.dvi.now) (length a.sheet.now) _ _ q)) in
    search rules

pub returns : goal.returns
returns c =
    let a = c.args in
    let g = a.galley.now in
    let k : Bytes g = λ i. (c.type_inv.galley i).fits in
    claims g a.widths.now a.dvi.now a.sheet.now k c.reprint_checked.ensures
