-- `running::Running::closed` meets its contract: by the phase.
-- Assumes nothing.
use Rattle.std.specs.Prelude.{length}
use Rattle.std.proofs.Common.{refl}
use Rattle.running.specs.RunningLaws.{close_phase, leaves_same}
use Rattle.running.proofs.Replies.{refuses, refuses_now}
use Rattle.running.proofs.Running.closed.Goals as goal

pub returns-in-AtRest : goal.returns-in-AtRest
returns-in-AtRest c =
    let a = c.args in
    refuses_now a.self (close_phase a.self (length a.out.now) c.in-AtRest.is) c.refusing.ensures c.at.ensures refl

pub returns-in-Failed : goal.returns-in-Failed
returns-in-Failed c =
    let a = c.args in
    refuses a.self (close_phase a.self (length a.out.now) c.in-Failed.is) c.refusing-in-Failed.ensures refl refl

pub returns-in-Open : goal.returns-in-Open
returns-in-Open c =
    let a = c.args in
    leaves_same (close_phase a.self (length a.out.now) c.in-Open.is) c.close_open.ensures
