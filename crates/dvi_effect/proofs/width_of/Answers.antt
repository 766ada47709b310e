-- `dvi_effect::width_of` meets its contract: the tests are those of `width_in`.
-- Assumes nothing.
use mathlib.Core.Path.{◌≡◌, ap, ◌∙◌}
use mathlib.Core.Bool.{true, false}
use mathlib.Core.Option.{some}
use Prim.Native.Nat.{ℕ, ◌+◌, ◌*◌}
use borrow.Author.Rules.{rules}
use lib.IntN.{ℤ, pos, nat_abs}
use lib.ListN.{get_or}
use lib.Signed.{lt_z}
use Rattle.integers.specs.Parts.{integers, bounds, abs_parts, non_neg_by}
use Rattle.integers.specs.Bits.{plain}
use Rattle.sheet.specs.Readable.{font_chars}
use Rattle.dvi_effect.proofs.Characters.{width_negative, width_missing, width_there}
use Rattle.dvi_effect.proofs.width_of.Goals as goal
use Rattle.dvi_effect.proofs.width_of.Goals.{Then-f-lt0, Else-f-lt0}

negative : (c : Then-f-lt0) → lt_z c.args.f (pos 0) ≡ true
negative c = rw (plain c.ranges.f) at c.if-f-lt0.true

natural : (c : Else-f-lt0) → lt_z c.args.f (pos 0) ≡ false
natural c = rw (plain c.ranges.f) at c.if-f-lt0.false

pub returns-then-f-lt0 : goal.returns-then-f-lt0
returns-then-f-lt0 c = let a = c.args in width_negative a.widths.now a.f a.c (negative c)

pub overflow_cast-i : goal.overflow_cast-i
overflow_cast-i c =
    let f = c.args.f in
    rw (plain c.ranges.f) (
      non_neg_by f (omega (integers, natural c)),
      record { fits = omega (integers, bounds c.ranges.f, abs_parts f) },
    )

pub overflow_mul-i : goal.overflow_mul-i
overflow_mul-i c =
    let f = c.ranges.f in
    rw (plain f) (record { fits = omega (integers, bounds f, abs_parts c.args.f) })

pub overflow_add-i : goal.overflow_add-i
overflow_add-i c =
    let f = c.ranges.f in
    rw (plain f) (record { fits = omega (integers, bounds f, abs_parts c.args.f, c.ranges.c) })

pub returns-then-widths-i : goal.returns-then-widths-i
returns-then-widths-i c =
    let a = c.args in
    width_missing a.widths.now a.f a.c (rw (plain c.ranges.f) at c.if-widths-i.true)

pub returns : goal.returns
returns c =
    let a = c.args in
    let i = ap (λ (z : ℤ). font_chars * nat_abs z + a.c) (plain c.ranges.f) in
    ap some (search rules ∙ ap (λ (k : ℕ). get_or a.widths.now k (pos 0)) i)
    ∙ width_there a.widths.now a.f a.c (natural c.before.before) (rw (plain c.ranges.f) at c.if-widths-i.false)
