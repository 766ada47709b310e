-- `punch_codes::put::put_size` meets its contract.
-- Assumes nothing.
use mathlib.Core.Path.{sym}
use Rattle.octets.specs.Write.{put_named, put_none}
use Rattle.octets.specs.Space.{space_named}
use Rattle.punch_codes.proofs.Sends.{size_none, size_one}
use Rattle.punch_codes.proofs.put.put_size.Goals as goal

pub put_code-requires : goal.put_code-requires
put_code-requires c =
    let a = c.args in
    space_named (size_one a.old a.new c.if-old-new.false) c.requires.1

pub returns-then-old-new : goal.returns-then-old-new
returns-then-old-new c = let a = c.args in put_named (sym (size_none a.old a.new c.if-old-new.true)) (put_none _ _ _)

pub returns-else-old-new : goal.returns-else-old-new
returns-else-old-new c =
    let a = c.args in
    put_named (sym (size_one a.old a.new c.if-old-new.false)) c.put_code.ensures
