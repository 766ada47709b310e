-- `dvi2_state::begin::right_begins` meets its contract: no move, no place for a character, or the bytes of the move.
-- Assumes nothing.
use mathlib.Core.Path.{◌≡◌, sym, ap, ◌∙◌}
use mathlib.Core.Bool.{not}
use native.Mathlib.Omega.{arith}
use borrow.Author.Tests.{eq-eqb}
use lib.IntN.{ℤ, pos, ◌-ℤ◌}
use lib.ListN.{drop}
use mir.Syntax.{w32}
use mir.Val.{SFits, to_z, of_z}
use Rattle.integers.specs.Parts.{integers, dif_parts}
use Rattle.integers.specs.Bits.{plain, same_bits}
use Rattle.dvi2.specs.Writer.{shortest}
use Rattle.dvi2_reading.specs.PageReading.{begins}
use Rattle.dvi2_state.specs.Page.{page_position}
use Rattle.dvi2_state.proofs.Searches.{no_truth, still_right, outside, moves_right}
use Rattle.dvi2_state.proofs.begin.right_begins.Goals as goal
use Rattle.dvi2_state.proofs.begin.right_begins.Goals.{Start, then-m-ne0, else-m-ne0}

-- the move is the difference of two places
module _ (s : Start) where
  abbrev by : ℤ
  by = s.args.to.0 -ℤ s.args.h.x.0

  by_fits : SFits w32 by
  by_fits =
      let o = s.requires.1.0 in
      omega (integers, o.left, o.right, s.requires.1.1.0, s.requires.1.1.1, dif_parts s.args.to.0 s.args.h.x.0)

  by-is : to_z w32 (of_z w32 s.args.to.0) -ℤ to_z w32 (of_z w32 s.args.h.x.0) ≡ by
  by-is =
      let o = s.requires.1.0 in
      let f : SFits w32 s.args.to.0 = omega (integers, s.requires.1.1.0, s.requires.1.1.1) in
      let g : SFits w32 s.args.h.x.0 = omega (integers, o.left, o.right) in
      rw (plain f, plain g)

pub overflow_sub-m : goal.overflow_sub-m
overflow_sub-m c = rw (by-is (goal.at.overflow_sub-m c).Start) (by_fits (goal.at.overflow_sub-m c).Start)

pub returns-then-valid_in : goal.returns-then-valid_in
returns-then-valid_in c =
    let s = (goal.at.returns-then-valid_in c).Start in
    elim c.if-m-ne0.branch [
      | then-m-ne0 w ↦
          c.begins_move.ensures
          ∙ ap (λ (m : ℤ). begins (drop c.args.at c.args.s.now) (shortest 143 m)) (rw (by-is s) (plain (by_fits s)))
          ∙ moves_right (drop c.args.at c.args.s.now) (page_position c.args.h) c.args.to.0 (λ e. w.if-m-ne0.true (ap (of_z w32) (by-is s ∙ e)))
          (sym w.valid_in.ensures ∙ sym w.value-is ∙ c.if-valid_in.true)
      | else-m-ne0 w ↦ no_truth _ c.if-valid_in.true (w.value-is ∙ ap not (eq-eqb _ _ w.if-m-ne0.false))
    ]

pub returns-else-valid_in : goal.returns-else-valid_in
returns-else-valid_in c =
    let s = (goal.at.returns-else-valid_in c).Start in
    elim c.if-m-ne0.branch [
      | then-m-ne0 w ↦
          c.if-valid_in.false
          ∙ outside (drop c.args.at c.args.s.now) (page_position c.args.h) c.args.to.0 (λ e. w.if-m-ne0.true (ap (of_z w32) (by-is s ∙ e)))
          (sym w.valid_in.ensures ∙ sym w.value-is ∙ c.if-valid_in.false)
      | else-m-ne0 w ↦
          c.if-valid_in.false
          ∙ still_right (drop c.args.at c.args.s.now) (page_position c.args.h) c.args.to.0
          (sym (by-is s) ∙ same_bits {w = w32} {b = pos 0} (rw (by-is s) (by_fits s)) (record { sfits = omega arith }) w.if-m-ne0.false)
    ]
