-- `dvi_step::end_file` meets its contract: PST stands after a page, before a postamble.
-- Assumes nothing.
use mathlib.Core.Path.{◌≡◌, sym, ap, ◌∙◌}
use mathlib.Core.Bool.{true}
use Prim.Native.Nat.{◌+◌}
use lib.IntN.{ℤ}
use lib.ListN.{drop}
use lib.Signed.{non_neg}
use Rattle.integers.specs.Bits.{plain}
use Rattle.dvi.specs.Postamble.{postamble}
use Rattle.dvi_step.proofs.Steps.{non_neg_no, non_neg_yes, end_first, end_good, end_bad}
use Rattle.dvi_step.proofs.end_file.Goals as goal
use Rattle.dvi_step.proofs.end_file.Goals.{Else-last-lt0, After-is_postamble}

pub returns-then-last-lt0 : goal.returns-then-last-lt0
returns-then-last-lt0 c ws l =
    let a = c.args in
    end_first ws a.last a.at (drop (a.at + 1) a.dvi.now) (non_neg_no a.last (rw (plain c.ranges.last) at c.if-last-lt0.true))

after-page : (c : Else-last-lt0) → non_neg c.args.last ≡ true
after-page c = non_neg_yes c.args.last (rw (plain c.ranges.last) at c.if-last-lt0.false)

-- what the test of the postamble tells
tested : (c : After-is_postamble) → let a = c.args in postamble a.last a.at (drop (a.at + 1) a.dvi.now) ≡ c.is_postamble.result
tested c =
    let a = c.args in
    ap (λ (z : ℤ). postamble z a.at (drop (a.at + 1) a.dvi.now)) (sym (plain c.ranges.last)) ∙ sym c.is_postamble.ensures

pub returns-then-is_postamble : goal.returns-then-is_postamble
returns-then-is_postamble c ws l = end_good ws _ _ _ (after-page (goal.at.returns-then-is_postamble c).Else-last-lt0) (tested (goal.at.returns-then-is_postamble c).After-is_postamble ∙ c.if-is_postamble.true)

pub returns-else-is_postamble : goal.returns-else-is_postamble
returns-else-is_postamble c ws l = end_bad ws _ _ _ (after-page (goal.at.returns-else-is_postamble c).Else-last-lt0) (tested (goal.at.returns-else-is_postamble c).After-is_postamble ∙ c.if-is_postamble.false)
