-- `dvi_effect::horz_char` meets its contract: the tests are those of `set_still`.
-- Assumes nothing.
use mathlib.Core.Path.{◌≡◌, sym, ap, ◌∙◌}
use mathlib.Core.Bool.{Bool, true, false}
use mathlib.Core.List.{List}
use mathlib.Core.Option.{some}
use borrow.Author.Rules.{rules}
use lib.IntN.{ℤ, pos, nat_abs}
use lib.Signed.{lt_z}
use mir.Syntax.{w32}
use Rattle.integers.specs.Parts.{integers, bounds, abs_parts, non_neg_by}
use Rattle.integers.specs.Bits.{plain}
use Rattle.dvi.specs.Page.{marked, char_here, set_still, effect}
use Rattle.dvi_page.specs.Page.{page_of, font_if_set}
use Rattle.dvi_effect.proofs.Characters.{still_none, still_negative, still_above, still_there}
use Rattle.dvi_effect.proofs.horz_char.Goals as goal
use Rattle.dvi_effect.proofs.horz_char.Goals.{Then-c-lt0, Else-c-lt0, Then-p}

negative : (c : Then-c-lt0) → lt_z c.args.c (pos 0) ≡ true
negative c = rw (plain c.ranges.c) at c.if-c-lt0.true

natural : (c : Else-c-lt0) → lt_z c.args.c (pos 0) ≡ false
natural c = rw (plain c.ranges.c) at c.if-c-lt0.false

-- a font is set
set : (c : Then-p) (l : List ℤ) → let a = c.args in let p = page_of a.p l in set_still p a.c (some a.p.font) ≡ set_still p a.c p.font
set c l =
    let a = c.args in
    ap (λ (b : Bool). set_still (page_of a.p l) a.c (font_if_set b a.p.font)) (sym c.if-p.true)

pub returns-then-c-lt0 : goal.returns-then-c-lt0
unfolding effect
returns-then-c-lt0 c ws l =
    let a = c.args in
    still_negative (page_of a.p l) a.c a.p.font (negative c) ∙ set (goal.at.returns-then-c-lt0 c).Then-p l

pub overflow_cast-code : goal.overflow_cast-code
overflow_cast-code c =
    rw (plain c.ranges.c) (
      non_neg_by c.args.c (omega (integers, natural c)),
      record { fits = omega (integers, bounds c.ranges.c, abs_parts c.args.c) },
    )

pub returns-then-code-gt-LAST_CHAR : goal.returns-then-code-gt-LAST_CHAR
unfolding effect
returns-then-code-gt-LAST_CHAR c ws l =
    let a = c.args in
    still_above (page_of a.p l) a.c a.p.font (rw (plain c.ranges.c) at c.if-code-gt-LAST_CHAR.true) ∙ set (goal.at.returns-then-code-gt-LAST_CHAR c).Then-p l

pub returns-else-code-gt-LAST_CHAR : goal.returns-else-code-gt-LAST_CHAR
unfolding effect
returns-else-code-gt-LAST_CHAR c ws l =
    let a = c.args in
    let p = page_of a.p l in
    let f = plain {w = w32} {z = a.p.font} (search rules) in
    ap (marked p) (c.char_here.ensures l ∙ (λ i. char_here p (f i) (nat_abs (plain c.ranges.c i))))
    ∙ still_there p a.c a.p.font (natural (goal.at.returns-else-code-gt-LAST_CHAR c).Else-c-lt0) (rw (plain c.ranges.c) at c.if-code-gt-LAST_CHAR.false)
    ∙ set (goal.at.returns-else-code-gt-LAST_CHAR c).Then-p l

pub returns-else-p : goal.returns-else-p
unfolding effect
returns-else-p c ws l =
    let a = c.args in
    still_none (page_of a.p l) a.c ∙ ap (λ (b : Bool). set_still (page_of a.p l) a.c (font_if_set b a.p.font)) (sym c.if-p.false)
