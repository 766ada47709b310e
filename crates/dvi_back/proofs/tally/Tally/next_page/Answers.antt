-- `dvi_back::tally::Tally::next_page` meets its contract.
-- Assumes nothing.
use mathlib.Core.Path.{◌≡◌, sym, ap, ◌∙◌}
use Prim.Native.Nat.{ℕ, suc, ◌+◌, ◌<◌}
use native.Mathlib.Omega.{arith}
use borrow.Author.Rules.{rules}
use lib.IntN.{pos, ◌+ℤ◌}
use mir.Syntax.{w32, w64}
use mir.Val.{SFits, Fits}
use Rattle.integers.specs.Parts.{integers, sum_parts}
use Rattle.integers.specs.Bits.{plain, plain_pos}
use Rattle.dvi_back.specs.Tally.{pages_in}
use Rattle.dvi_back.specs.declared.tally.Tally.{Tally}
use Rattle.dvi_back.proofs.tally.Tally.next_page.Goals as goal
use Rattle.dvi_back.proofs.tally.Tally.next_page.Goals.{In-Items}

module _ (c : In-Items) where
  abbrev cuts : ℕ
  cuts = c.in-Items.cuts

  cuts-small : cuts < 4294967296
  cuts-small = let f : Fits w32 cuts = search rules in omega (arith, f.fits)

  cuts_fit : SFits w64 (pos cuts)
  cuts_fit = omega (integers, cuts-small)

  sum_fits : (k : ℕ) → k < 4294967296 → SFits w64 (pos cuts +ℤ pos k)
  sum_fits k h = omega (integers, cuts-small, h, sum_parts (pos cuts) (pos k))

pub overflow_add-result : goal.overflow_add-result
overflow_add-result c = rw (plain_pos {w = w64} (cuts_fit c)) (sum_fits c _ (omega arith))

pub returns-in-Nothing : goal.returns-in-Nothing
returns-in-Nothing c = ap (λ (g : Tally). pos (suc (pages_in g))) (sym c.in-Nothing.is)

pub returns-in-Items : goal.returns-in-Items
returns-in-Items c =
    let e : cuts c + 2 ≡ suc (cuts c + 1) = omega arith in
    rw (plain_pos {w = w64} (cuts_fit c))
    (plain (sum_fits c 2 (omega arith)) ∙ ap pos e ∙ ap (λ (g : Tally). pos (suc (pages_in g))) (sym c.in-Items.is))

pub returns-in-Broken : goal.returns-in-Broken
returns-in-Broken c = ap (λ (g : Tally). pos (suc (pages_in g))) (sym c.in-Broken.is)
