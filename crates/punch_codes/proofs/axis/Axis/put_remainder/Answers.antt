-- `punch_codes::axis::Axis::put_remainder` meets its contract.
-- Assumes nothing.
use mathlib.Core.Path.{sym}
use Rattle.octets.specs.Write.{put_named, put_none}
use Rattle.octets.specs.Space.{space_named}
use Rattle.punch_codes.proofs.Sends.{remainder_none, remainder_one}
use Rattle.punch_codes.proofs.axis.Axis.put_remainder.Goals as goal

pub put_code-requires : goal.put_code-requires
put_code-requires c =
    let a = c.args in
    space_named (remainder_one a.self.longest a.self.code a.n c.if-n-eq0.false) c.requires.1

pub returns-then-n-eq0 : goal.returns-then-n-eq0
returns-then-n-eq0 c = let a = c.args in put_named (sym (remainder_none a.self.longest a.self.code a.n c.if-n-eq0.true)) (put_none _ _ _)

pub returns-else-n-eq0 : goal.returns-else-n-eq0
returns-else-n-eq0 c =
    let a = c.args in
    put_named (sym (remainder_one a.self.longest a.self.code a.n c.if-n-eq0.false)) c.put_code.ensures
