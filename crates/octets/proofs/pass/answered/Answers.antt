-- `octets::pass::answered` meets its contract: a refusal is handed on, and the test is that of the definition.
-- Assumes nothing.
use Rattle.std.proofs.Common.{rules, lt-ltb, le-ltb}
use Rattle.octets.specs.Pass.{decided}
use Rattle.octets.proofs.pass.answered.Goals as goal

pub returns-in_err-needed : goal.returns-in_err-needed
unfolding decided
returns-in_err-needed g c = search rules

pub returns-then-room-needed : goal.returns-then-room-needed
unfolding decided
returns-then-room-needed g c = rw (c.in_ok-needed.was, lt-ltb c.args.room c.in_ok-needed.needed c.if-room-needed.true, c.made_at.ensures.number, c.made_at.ensures.place)

pub returns : goal.returns
unfolding decided
returns g c = rw (c.in_ok-needed.was, le-ltb c.args.room c.in_ok-needed.needed c.if-room-needed.false)
