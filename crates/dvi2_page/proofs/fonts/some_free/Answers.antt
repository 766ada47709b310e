-- `dvi2_page::fonts::some_free` meets its contract: the fonts are searched.
-- Assumes nothing.
use mathlib.Core.Path.{refl, ◌∙◌}
use mathlib.Core.Bool.{not}
use Prim.Native.Nat.{ℕ}
use native.Mathlib.Omega.{arith}
use borrow.Author.Rules.{rules}
use borrow.Author.Tests.{tests}
use Rattle.std.proofs.lemmas.Iterator.{YieldsList-from_range}
use Rattle.std.proofs.lemmas.Iterator.Search.{any_from_yields_List}
use Rattle.galley_file.specs.Item.{characters_of}
use Rattle.extents.specs.FontMarks.{is_marked}
use Rattle.dvi2_state.proofs.Searches.{any_below}
use Rattle.dvi2_page.specs.Fonts.{is_free}
use Rattle.dvi2_page.proofs.Selects.{unmarked_free}
use Rattle.dvi2_page.proofs.fonts.some_free.Goals as goal

pub returns : goal.returns
returns c =
    let u = c.args.used in
    λ is k.
    any_from_yields_List (λ (f : ℕ). not (is_marked u.low u.high f)) _ _ _ c.any.ensures.ran (YieldsList-from_range 0 120 120 refl refl) (λ x b q j. search (rules, tests))
    ∙ any_below 0 120 (is_free (characters_of is)) _ (λ f l. absurd (omega arith)) (λ f a l. unmarked_free u.low u.high is k f l)
