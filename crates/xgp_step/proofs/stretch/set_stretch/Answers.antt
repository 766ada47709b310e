-- `xgp_step::stretch::set_stretch` meets its contract. The characters behind ran from the state s, and their fields are written; the measure
-- is what is left of the file.
-- Assumes nothing.
use mathlib.Core.Path.{◌≡◌, sym, ap, ◌∙◌, subst}
use mathlib.Core.Bool.{true}
use mathlib.Core.List.{[], ◌∷◌, ◌++◌}
use Prim.Native.Nat.{ℕ, ◌+◌, ◌*◌, ◌≤◌}
use native.Mathlib.Omega.{arith}
use borrow.Author.Rules.{rules}
use lib.IntN.{ℤ, pos, ◌+ℤ◌}
use lib.ListN.{length, get_or, length-append}
use mir.Syntax.{w32}
use mir.Val.{SFits, to_z, of_z}
use Rattle.integers.specs.Bits.{plain, returned}
use Rattle.octets.specs.Octets.{fits32}
use Rattle.octets.specs.WordLaws.{true_fits32}
use Rattle.sheet.specs.Sheet.{Mark, char_mark, mark_field, mark_fields}
use Rattle.sheet.specs.SheetLaws.{length_mark_field, one_field, fields_most, mark_fields_append}
use Rattle.octets.specs.Write.{put_named}
use Rattle.octets.specs.ReachLaws.{reach_to}
use Rattle.xgp.specs.State.{width_in}
use Rattle.xgp_step.specs.Stretch.{Ran}
use Rattle.xgp_step.proofs.Puts.{put_none, put_one, put_then}
use Rattle.xgp_step.proofs.Stretches.{ran_start, ran_next}
use Rattle.xgp_step.proofs.stretch.set_stretch.Goals as goal
use Rattle.xgp_step.proofs.stretch.set_stretch.Goals.{Start, In-Some}

y_fits : (s : Start) → SFits w32 s.args.y.0
y_fits s = search rules

-- one character
module _ (c : In-Some) where
  abbrev byte : ℕ
  byte = get_or c.args.file.now c.loop-at.at 0

  abbrev after : ℤ
  after = to_z w32 (of_z w32 c.in-Some.v)

  abbrev mark : Mark
  mark = char_mark (to_z w32 c.loop-at.x-bits) c.args.y.0 (pos c.args.s.font) byte

  further : Ran c.args.widths.now c.args.spacing c.args.file.now c.args.s c.args.from (c.loop-at.at + 1) after (c.loop-at.invariant.0 ++ (mark ∷ []))
  unfolding width_in
  further =
      let a = c.args in
      let i = c.loop-at.invariant in
      let z = to_z w32 c.loop-at.x-bits +ℤ width_in a.widths.now a.s byte in
      let v = returned w32 c.width_of.type_inv c.width_of.ensures in
      let k = reach_to z c.sum.ensures (λ i. to_z w32 c.loop-at.x-bits +ℤ v i) c.in-Some.is in
      let h = c.requires.from_in_bounds.1.1.1 in
      ran_next a.widths.now a.spacing a.file.now a.s a.from a.y.0 after i.1.0 c.loop-at-test.true c.if-b-lt-FIRST_ORDINARY.false c.if-b-ge-ESCAPE.false c.requires.from_in_bounds.1.1.0
      (sym (ap fits32 h) ∙ true_fits32 a.y.0 (search rules)) h k.0 (plain {w = w32} {z = c.in-Some.v} (search rules) ∙ k.1)

  room : c.args.writing ≡ true → length (mark_fields c.loop-at.invariant.0) + 16 + c.args.first + 7 ≤ length c.args.out.now
  room w =
      let ms = c.loop-at.invariant.0 in
      omega (
        arith,
        c.requires.room w (c.loop-at.at + 1) after (ms ++ (mark ∷ [])) further,
        ap length (mark_fields_append ms (mark ∷ [])),
        length-append (mark_fields ms) (mark_fields (mark ∷ [])),
        ap length (one_field mark),
        length_mark_field mark,
      )

  -- how far the sheet is
  near : c.loop-at.to + 20 * c.args.from ≤ c.args.first + 20 * c.loop-at.at
  near =
      let i = c.loop-at.invariant in
      omega (arith, i.1.1.place, i.1.0.long, fields_most i.0)

pub loop-at-init : goal.loop-at-init
loop-at-init c =
    let a = c.args in
    let x = plain {w = w32} {z = a.s.x.0} (search rules) in
    ([], (subst (λ (z : ℤ). Ran a.widths.now a.spacing a.file.now a.s a.from a.from z []) (sym x) (ran_start a.widths.now a.spacing a.file.now a.s a.from c.requires.from_in_bounds.0.0), put_none a.writing a.out.now a.first))

pub returns-then-b-lt-FIRST_ORDINARY : goal.returns-then-b-lt-FIRST_ORDINARY
returns-then-b-lt-FIRST_ORDINARY c =
    let i = c.loop-at.invariant in
    record { marks = i.0; ran = i.1.0; put = i.1.1 }

pub returns-in_default : goal.returns-in_default
returns-in_default c =
    let i = c.loop-at.invariant in
    record { marks = i.0; ran = i.1.0; put = i.1.1 }

pub returns-after-loop-at : goal.returns-after-loop-at
returns-after-loop-at c =
    let i = c.loop-at.invariant in
    record { marks = i.0; ran = i.1.0; put = i.1.1 }

pub show_char-to-requires : goal.show_char-to-requires
show_char-to-requires c =
    let i = c.loop-at.invariant in
    let k = (goal.at.show_char-to-requires c).In-Some in
    (omega (arith, near k, c.requires.from_in_bounds.1.0, c.requires.from_in_bounds.0.1, c.loop-at-test.true), λ w. omega (arith, room k w, i.1.1.place, c.loop-at.auto.out))

pub loop-at-preserved : goal.loop-at-preserved
loop-at-preserved c =
    let i = c.loop-at.invariant in
    let k = (goal.at.loop-at-preserved c).In-Some in
    let y = plain (y_fits (goal.at.loop-at-preserved c).Start) in
    let e = returned w32 c.from.type_inv c.from.ensures in
    let q = put_one (mark k) (put_named (λ i. mark_field (char_mark (to_z w32 c.loop-at.x-bits) (y i) (e i) (byte k))) c.show_char-to.ensures) in
    (_, (further k, put_then i.0 (mark k ∷ []) i.1.1 q))
