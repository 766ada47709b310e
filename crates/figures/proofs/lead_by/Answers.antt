-- `figures::lead_by` meets its contract: the table at all 256 codes.
-- Assumes nothing.
use Rattle.std.proofs.Common.{◌-◌, ◌%◌, Bool, cond, sym, ap, ◌∙◌, eq-eqb, ne_eqb}
use Rattle.figures.specs.LeadLaws.{lead_at_lem}
use Rattle.figures.proofs.lead_by.Goals as goal

pub returns-then-b-eq3 : goal.returns-then-b-eq3
returns-then-b-eq3 c = λ machine.
    let b = c.args.b in
    c.lead_size.ensures ∙ sym (ap (λ (t : Bool). cond t (31 - b % 32) 0) (eq-eqb _ _ c.if-b-eq3.true)) ∙ lead_at_lem machine b c.ranges.b.fits

pub returns-else-b-eq3 : goal.returns-else-b-eq3
returns-else-b-eq3 c = λ machine. let b = c.args.b in sym (ap (λ (t : Bool). cond t (31 - b % 32) 0) (ne_eqb _ _ c.if-b-eq3.false)) ∙ lead_at_lem machine b c.ranges.b.fits
