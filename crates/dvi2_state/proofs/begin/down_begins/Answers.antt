-- `dvi2_state::begin::down_begins` meets its contract: no move, or the bytes of the move.
-- Assumes nothing.
use mathlib.Core.Path.{◌≡◌, sym, ap, ◌∙◌}
use mathlib.Core.Bool.{not}
use native.Mathlib.Omega.{arith}
use borrow.Author.Tests.{eq-eqb}
use lib.IntN.{ℤ, pos, ◌-ℤ◌, ◌*ℤ◌}
use lib.ListN.{drop}
use mir.Syntax.{w32}
use mir.Val.{SFits, to_z, of_z}
use Rattle.integers.specs.Parts.{integers, dif_parts, scale_parts}
use Rattle.integers.specs.Bits.{plain, same_bits}
use Rattle.dvi2.specs.Writer.{shortest}
use Rattle.dvi2_commands.proofs.Positions.{thrice_dif}
use Rattle.dvi2_reading.specs.PageReading.{begins}
use Rattle.dvi2_state.specs.Page.{page_position}
use Rattle.dvi2_state.proofs.Searches.{still_down, moves_down}
use Rattle.dvi2_state.proofs.begin.down_begins.Goals as goal
use Rattle.dvi2_state.proofs.begin.down_begins.Goals.{Start}

-- the move is three times the difference of two heights
module _ (s : Start) where
  abbrev lower : ℤ
  lower = s.args.to.0 -ℤ s.args.h.height.0

  lower-fits : SFits w32 lower
  lower-fits =
      let o = s.requires.1.0 in
      omega (integers, o.top, o.bottom, s.requires.1.1.0, s.requires.1.1.1, scale_parts 3 s.args.h.height.0, dif_parts s.args.to.0 s.args.h.height.0)

  lower-is : to_z w32 (of_z w32 s.args.to.0) -ℤ to_z w32 (of_z w32 s.args.h.height.0) ≡ lower
  lower-is =
      let o = s.requires.1.0 in
      let f : SFits w32 s.args.to.0 = omega (integers, s.requires.1.1.0, s.requires.1.1.1) in
      let g : SFits w32 s.args.h.height.0 = omega (integers, o.top, o.bottom, scale_parts 3 s.args.h.height.0) in
      rw (plain f, plain g)

  by_fits : SFits w32 (pos 3 *ℤ lower)
  by_fits =
      let o = s.requires.1.0 in
      omega (integers, o.top, o.bottom, s.requires.1.1.0, s.requires.1.1.1, scale_parts 3 s.args.h.height.0, dif_parts s.args.to.0 s.args.h.height.0, scale_parts 3 lower)

  by-is : pos 3 *ℤ to_z w32 (of_z w32 (to_z w32 (of_z w32 s.args.to.0) -ℤ to_z w32 (of_z w32 s.args.h.height.0))) ≡ pos 3 *ℤ lower
  by-is = ap (λ (z : ℤ). pos 3 *ℤ z) (ap (λ (z : ℤ). to_z w32 (of_z w32 z)) lower-is ∙ plain lower-fits)

  by-dif : pos 3 *ℤ lower ≡ pos 3 *ℤ s.args.to.0 -ℤ pos 3 *ℤ s.args.h.height.0
  by-dif = thrice_dif s.args.to.0 s.args.h.height.0

pub overflow_sub-m : goal.overflow_sub-m
overflow_sub-m c = rw (lower-is (goal.at.overflow_sub-m c).Start) (lower-fits (goal.at.overflow_sub-m c).Start)

pub overflow_mul-m : goal.overflow_mul-m
overflow_mul-m c = rw (by-is (goal.at.overflow_mul-m c).Start) (by_fits (goal.at.overflow_mul-m c).Start)

pub returns-else-m-ne0 : goal.returns-else-m-ne0
returns-else-m-ne0 c =
    ap not (eq-eqb _ _ c.if-m-ne0.false)
    ∙ still_down (drop c.args.at c.args.s.now) (page_position c.args.h) (pos 3 *ℤ c.args.to.0)
    (sym (by-dif (goal.at.returns-else-m-ne0 c).Start) ∙ sym (by-is (goal.at.returns-else-m-ne0 c).Start) ∙ same_bits {w = w32} {b = pos 0} (rw (by-is (goal.at.returns-else-m-ne0 c).Start) (by_fits (goal.at.returns-else-m-ne0 c).Start)) (record { sfits = omega arith }) c.if-m-ne0.false)

pub returns-then-m-ne0 : goal.returns-then-m-ne0
returns-then-m-ne0 c =
    c.begins_move.ensures
    ∙ ap (λ (m : ℤ). begins (drop c.args.at c.args.s.now) (shortest 157 m)) (rw (by-is (goal.at.returns-then-m-ne0 c).Start) (plain (by_fits (goal.at.returns-then-m-ne0 c).Start) ∙ by-dif (goal.at.returns-then-m-ne0 c).Start))
    ∙ moves_down (drop c.args.at c.args.s.now) (page_position c.args.h) (pos 3 *ℤ c.args.to.0) (λ e. c.if-m-ne0.true (ap (of_z w32) (by-is (goal.at.returns-then-m-ne0 c).Start ∙ by-dif (goal.at.returns-then-m-ne0 c).Start ∙ e)))
