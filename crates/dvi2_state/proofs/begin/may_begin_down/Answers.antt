-- `dvi2_state::begin::may_begin_down` meets its contract: the heights are searched.
-- Assumes nothing.
use mathlib.Core.Path.{refl, ap, ◌∙◌}
use Prim.Native.Nat.{ℕ, ◌*◌}
use native.Mathlib.Omega.{arith}
use borrow.Author.Rules.{rules}
use borrow.Author.Tests.{tests}
use lib.IntN.{ℤ, pos, ◌*ℤ◌}
use lib.ListN.{drop}
use mir.Syntax.{w32}
use mir.Val.{to_z, of_z}
use Rattle.std.proofs.lemmas.Iterator.{YieldsList-from_range}
use Rattle.std.proofs.lemmas.Iterator.Search.{any_from_yields_List}
use Rattle.integers.specs.Bits.{plain_pos}
use Rattle.dvi2_reading.specs.Reading.{heights}
use Rattle.dvi2_state.specs.Page.{page_position, down_begins}
use Rattle.dvi2_state.proofs.Searches.{any_below, count_fits}
use Rattle.dvi2_state.proofs.begin.may_begin_down.Goals as goal

pub returns : goal.returns
returns c =
    let s = drop c.args.at c.args.s.now in
    let p = page_position c.args.h in
    any_from_yields_List (λ (k : ℕ). down_begins s p (pos 3 *ℤ to_z w32 (of_z w32 (pos k)))) _ _ _ c.any.ensures.ran (YieldsList-from_range 0 heights heights refl refl) (λ x b q k. search (rules, tests))
    ∙ any_below 0 heights (λ (k : ℕ). down_begins s p (pos (3 * k))) _ (λ k l. absurd (omega arith)) (λ k a l. ap (λ (z : ℤ). down_begins s p (pos 3 *ℤ z)) (plain_pos (count_fits k l)))
