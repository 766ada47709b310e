-- `spatecanter_running::words::state_in` meets its contract, part by part.
-- Assumes nothing.
use Prim.Native.Nat.{◌%◌}
use lib.Dec.{eqb}
use lib.ListN.{get_or}
use Rattle.spatecanter_running.specs.Words.{modes_in}
use Rattle.spatecanter_running.specs.WordsLaws.{word_held}
use Rattle.spatecanter_running.proofs.words.state_in.Goals as goal

pub returns : goal.returns
returns c =
    let w = c.args.w in
    let m = c.machine_in-machine.ensures in
    let x = word_held (get_or w 15 0) c.signed_in-carriage.ensures in
    let h = word_held (get_or w 16 0) c.signed_in-height.ensures in
    (λ i. record {
      machine = m i;
      initialized = eqb (get_or w 4 0) 1;
      parked = eqb (get_or w 5 0) 1;
      stopped = eqb (get_or w 6 0) 1;
      cut = eqb (get_or w 7 0) 1;
      modes = modes_in w;
      size = get_or w 14 0 % 256;
      carriage = record { 0 = x i };
      height = record { 0 = h i };
    })
