-- `spatecanter_running::sp_extents` meets its contract.
-- Assumes nothing.
use mathlib.Core.Path.{ap}
use mathlib.Core.List.{[], ◌∷◌}
use lib.ListN.{get_or}
use Rattle.extents.specs.declared.Extents.{Extents}
use Rattle.spatecanter_running.specs.Words.{tape_in}
use Rattle.spatecanter_running.specs.WordsLaws.{word_held}
use Rattle.spatecanter_running.proofs.sp_extents.Goals as goal

pub returns : goal.returns
unfolding tape_in
returns c =
    let w = c.args.tape.now in
    let e = c.extents_in-e.ensures in
    let x = word_held (get_or w 19 0) (ap (λ (r : Extents). r.x.0) e) in
    let h = word_held (get_or w 20 0) (ap (λ (r : Extents). r.height.0) e) in
    ((λ i. x i ∷ h i ∷ []), (λ i. (e i).fonts.low ∷ (e i).fonts.high ∷ []))
