-- `spatecanter_running::words::tape_in` meets its contract, part by part.
-- Assumes nothing.
use lib.ListN.{get_or}
use Rattle.spatecanter_running.specs.Words.{tape_in}
use Rattle.spatecanter_running.proofs.words.tape_in.Goals as goal

pub returns : goal.returns
unfolding tape_in
returns c =
    let w = c.args.w in
    let p = c.phase_in-phase.ensures in
    let s = c.state_in-state.ensures in
    let x = c.extents_in-extents.ensures in
    (λ i. record { phase = p i; state = s i; total = get_or w 17 0; count = get_or w 18 0; extents = x i })
