-- `spatecanter_running::words::extents_in` meets its contract.
-- Assumes nothing.
use lib.ListN.{get_or}
use Rattle.spatecanter_running.specs.WordsLaws.{word_held}
use Rattle.spatecanter_running.proofs.words.extents_in.Goals as goal

pub returns : goal.returns
returns c =
    let w = c.args.w in
    let x = word_held (get_or w 19 0) c.signed_in-x.ensures in
    let h = word_held (get_or w 20 0) c.signed_in-height.ensures in
    (λ i. record { x = record { 0 = x i }; height = record { 0 = h i }; fonts = record { low = get_or w 21 0; high = get_or w 22 0 } })
