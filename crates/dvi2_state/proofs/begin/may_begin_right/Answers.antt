-- `dvi2_state::begin::may_begin_right` meets its contract: the places across are searched.
-- Assumes nothing.
use mathlib.Core.Path.{refl, ap, ◌∙◌}
use Prim.Native.Nat.{ℕ}
use native.Mathlib.Omega.{arith}
use borrow.Author.Rules.{rules}
use borrow.Author.Tests.{tests}
use lib.IntN.{ℤ, pos, ◌-ℤ◌}
use lib.ListN.{drop}
use mir.Syntax.{w32}
use mir.Val.{to_z, of_z}
use Rattle.std.proofs.lemmas.Iterator.{YieldsList-from_range}
use Rattle.std.proofs.lemmas.Iterator.Search.{any_from_yields_List}
use Rattle.integers.specs.Bits.{plain, plain_pos}
use Rattle.measure.specs.Target.{entry_x}
use Rattle.dvi2_reading.specs.Reading.{places}
use Rattle.dvi2_state.specs.Page.{page_position, right_begins}
use Rattle.dvi2_state.proofs.Searches.{any_below, count_fits, place_fits}
use Rattle.dvi2_state.proofs.begin.may_begin_right.Goals as goal

pub returns : goal.returns
returns c =
    let s = drop c.args.at c.args.s.now in
    let p = page_position c.args.h in
    any_from_yields_List (λ (k : ℕ). right_begins s p (to_z w32 (of_z w32 (to_z w32 (of_z w32 (pos k)) -ℤ pos 55)))) _ _ _ c.any.ensures.ran (YieldsList-from_range 0 places places refl refl) (λ x b q k. search (rules, tests))
    ∙ any_below 0 places (λ (k : ℕ). right_begins s p (entry_x k)) _ (λ k l. absurd (omega arith))
    (λ k a l. ap (right_begins s p) (ap (λ (z : ℤ). to_z w32 (of_z w32 (z -ℤ pos 55))) (plain_pos (count_fits k (omega arith))) ∙ plain (place_fits k l)))
