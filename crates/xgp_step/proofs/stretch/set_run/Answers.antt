-- `xgp_step::stretch::set_run` meets its contract.
-- Assumes nothing.
use Rattle.std.specs.Prelude.{[]}
use Rattle.std.proofs.Common.{refl, ◌∙◌, w32, rules}
use Rattle.integers.specs.Bits.{plain}
use Rattle.octets.specs.ReachLaws.{reach_to}
use Rattle.xgp.specs.State.{y_in}
use Rattle.xgp_step.proofs.Puts.{put_none}
use Rattle.xgp_step.proofs.Stretches.{ran_start}
use Rattle.xgp_step.proofs.stretch.set_run.Goals as goal

pub set_stretch-requires : goal.set_stretch-requires
set_stretch-requires c =
    let a = c.args in
    let k = reach_to (y_in a.s) c.y_in.ensures refl c.in-Some.is in
    record { from_in_bounds = (c.requires.from_in_bounds.0, (c.requires.from_in_bounds.1, (c.if-s.true, plain {w = w32} {z = c.in-Some.y} (search rules) ∙ k.1))); room = c.requires.room }

pub returns-2 : goal.returns-2
returns-2 c =
    let a = c.args in
    record { marks = []; ran = ran_start a.widths.now a.spacing a.file.now a.s a.from c.requires.from_in_bounds.0.0; put = put_none a.writing a.out.now a.first }
