-- `dvi2_commands::position::Position::down_to` meets its contract: three times a difference of valid heights fits.
-- Assumes nothing.
use Rattle.integers.specs.Bits.{plain}
use Rattle.dvi2_commands.proofs.Positions.{to_fits, from_fits, drop_fits, down_fits, down_is}
use Rattle.dvi2_commands.proofs.position.Position.down_to.Goals as goal

pub overflow_sub-result : goal.overflow_sub-result
overflow_sub-result c =
    let a = c.args in
    let p = c.requires in
    rw (plain (to_fits a.self a.c p.0 p.1), plain (from_fits a.self a.c p.0 p.1)) (drop_fits a.self a.c p.0 p.1)

pub overflow_mul-result : goal.overflow_mul-result
overflow_mul-result c =
    let a = c.args in
    let p = c.requires in
    rw (plain (to_fits a.self a.c p.0 p.1), plain (from_fits a.self a.c p.0 p.1), plain (drop_fits a.self a.c p.0 p.1)) (down_fits a.self a.c p.0 p.1)

pub returns : goal.returns
returns c =
    let a = c.args in
    let p = c.requires in
    rw (plain (to_fits a.self a.c p.0 p.1), plain (from_fits a.self a.c p.0 p.1), plain (drop_fits a.self a.c p.0 p.1), plain (down_fits a.self a.c p.0 p.1))
    (down_is a.self a.c p.0 p.1)
