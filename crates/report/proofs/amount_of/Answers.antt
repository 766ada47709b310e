-- `report::amount_of` meets its contract: each test is the definition's.
-- Assumes nothing.
use Rattle.std.proofs.Common.{ℕ, ◌∙◌, eqb, ap, subst}
use mir.Val.{bool_byte}
use Rattle.figures.specs.Counting.{Tally, Tallied}
use Rattle.report.proofs.Entries.{amount_tapes, amount_number, amount_accepted, amount_refused, amount_forward, amount_backward}
use Rattle.report.proofs.amount_of.Goals as goal

pub returns-then-i-eq0 : goal.returns-then-i-eq0
returns-then-i-eq0 c = λ f r. amount_tapes c.args.fonts.now c.args.i f c.if-i-eq0.true

pub returns-then-i-lt-FIRST_FONT : goal.returns-then-i-lt-FIRST_FONT
returns-then-i-lt-FIRST_FONT c = λ f r. let a = c.args in
    ap (λ (e : ℕ). bool_byte (eqb a.i e)) c.entry_of.ensures ∙ amount_number a.fonts.now a.i f c.if-i-eq0.false a.tally r c.if-i-lt-FIRST_FONT.true

pub returns-in-Err : goal.returns-in-Err
returns-in-Err c = λ f r. let a = c.args in
    amount_refused a.fonts.now a.i f c.if-i-eq0.false c.if-i-lt-FIRST_FONT.false c.in-Err.field-0 (subst (λ (t : Tally). Tallied f t a.fonts.now) c.in-Err.is r)

pub returns-in-Ok : goal.returns-in-Ok
returns-in-Ok c = λ f r. let a = c.args in
    amount_accepted a.fonts.now a.i f c.if-i-eq0.false c.if-i-lt-FIRST_FONT.false _ (subst (λ (t : Tally). Tallied f t a.fonts.now) c.in-Ok.is r) c.if-i-lt-FORWARD.true

pub returns-in-Ok-2 : goal.returns-in-Ok-2
returns-in-Ok-2 c = λ f r. let a = c.args in
    amount_forward a.fonts.now a.i f c.if-i-eq0.false c.if-i-lt-FIRST_FONT.false _ (subst (λ (t : Tally). Tallied f t a.fonts.now) c.in-Ok-2.is r) c.if-i-lt-FORWARD.false c.if-i-eq-FORWARD.true

pub returns-in-Ok-3 : goal.returns-in-Ok-3
returns-in-Ok-3 c = λ f r. let a = c.args in
    amount_backward a.fonts.now a.i f c.if-i-eq0.false c.if-i-lt-FIRST_FONT.false _ (subst (λ (t : Tally). Tallied f t a.fonts.now) c.in-Ok-3.is r) c.if-i-lt-FORWARD.false c.if-i-eq-FORWARD.false
