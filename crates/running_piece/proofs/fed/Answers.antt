-- `running_piece::fed` meets its contract: by the phase.
-- Assumes nothing.
use mathlib.Core.Path.{refl}
use lib.ListN.{length}
use Rattle.running.specs.RunningLaws.{feed_phase, leaves_same}
use Rattle.running.proofs.Replies.{refuses, refuses_now}
use Rattle.running_piece.proofs.fed.Goals as goal

pub returns-in-AtRest : goal.returns-in-AtRest
returns-in-AtRest c =
    let a = c.args in
    refuses_now a.tape (feed_phase a.tape a.piece.now (length a.out.now) c.in-AtRest.is) c.refusing.ensures c.at.ensures refl

pub returns-in-Failed : goal.returns-in-Failed
returns-in-Failed c =
    let a = c.args in
    refuses a.tape (feed_phase a.tape a.piece.now (length a.out.now) c.in-Failed.is) c.refusing-in-Failed.ensures refl refl

pub returns-in-Open : goal.returns-in-Open
returns-in-Open c =
    let a = c.args in
    leaves_same (feed_phase a.tape a.piece.now (length a.out.now) c.in-Open.is) c.feed_open.ensures
