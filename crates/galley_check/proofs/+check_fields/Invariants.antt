-- The cycle of calls {check_fields}: the measure is the number of runs that may come.
use Rattle.galley_check.proofs.+check_fields.Given as goal

abbrev pub decreases-check_fields : goal.decreases-check_fields
decreases-check_fields l = l.runs
