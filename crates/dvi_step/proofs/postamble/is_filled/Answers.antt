-- `dvi_step::postamble::is_filled` meets its contract: `all` over what is left.
-- Assumes nothing.
use mathlib.Core.Path.{ap, ◌∙◌}
use Prim.Native.Nat.{ℕ}
use lib.Dec.{eqb}
use lib.ListN.{drop}
use Rattle.std.specs.List.{list_all}
use Rattle.std.proofs.Common.{rules, tests}
use Rattle.std.proofs.lemmas.List.{take_rest}
use Rattle.std.proofs.lemmas.Iterator.{YieldsList-from_slice}
use Rattle.std.proofs.lemmas.Iterator.Search.{all_from_yields_List}
use Rattle.dvi_step.proofs.Postambles.{all223_is}
use Rattle.dvi_step.proofs.postamble.is_filled.Goals as goal

pub returns : goal.returns
returns c =
    all_from_yields_List (λ b. eqb b 223) _ _ _ c.all.ensures.ran (YieldsList-from_slice _ c.iter.ensures.rest) (λ x b q k. search (rules, tests))
    ∙ ap (list_all (λ (b : ℕ). eqb b 223)) (take_rest c.args.s.now c.args.i)
    ∙ all223_is (drop c.args.i c.args.s.now)
