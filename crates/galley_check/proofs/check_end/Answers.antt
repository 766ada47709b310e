-- `galley_check::check_end` meets its contract.
use mathlib.Core.Path.{sym, ◌∙◌}
use Rattle.galley_check.proofs.Reading.{ended, trailing, faulty}
use Rattle.galley_check.proofs.check_end.Goals as goal

pub returns-then-s-eq-END_FIELD : goal.returns-then-s-eq-END_FIELD
returns-then-s-eq-END_FIELD c = ended _ _ _ (sym c.starts_end.ensures ∙ c.if-starts_end.true) c.if-s-eq-END_FIELD.true

pub returns-then-starts_end : goal.returns-then-starts_end
returns-then-starts_end c = rw c.at.ensures (trailing _ _ _ (sym c.starts_end.ensures ∙ c.if-starts_end.true) c.if-s-eq-END_FIELD.false)

pub returns : goal.returns
returns c = rw c.at-2.ensures (faulty _ _ _ (sym c.starts_end.ensures ∙ c.if-starts_end.false))
