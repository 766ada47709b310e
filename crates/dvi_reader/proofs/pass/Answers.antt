-- `dvi_reader::pass` meets its contract. The invariant: what the file shows so far (`Standing`), and the buffer that
-- holds it (`Filled`). The measure is what is left of the file.
-- Assumes nothing.
use mathlib.Core.Path.{◌≡◌, refl, sym, ap, ◌∙◌}
use mathlib.Core.Bool.{true}
use mathlib.Core.List.{List, [], ◌∷◌, ◌++◌}
use Prim.Native.Nat.{ℕ, ◌+◌, ◌≤◌}
use native.Mathlib.Omega.{arith}
use lib.IntN.{ℤ}
use lib.ListN.{length, length-append}
use Rattle.octets.specs.Answer.{number_in}
use Rattle.octets.specs.declared.refusal.Refusal.{Refusal}
use Rattle.octets.specs.declared.refusal.Reason.{Reason}
use Rattle.sheet.specs.Sheet.{Mark, mark_fields}
use Rattle.dvi.specs.File.{go_on, marks_alone}
use Rattle.dvi.proofs.FileLaws.{step_here}
use Rattle.sheet.specs.SheetLaws.{field_size, length_mark_field, one_field, mark_fields_append}
use Rattle.sheet.specs.Shown.{Shown, refused_at}
use Rattle.sheet.specs.ShownLaws.{shown_room}
use Rattle.dvi.specs.Mark.{mark_of}
use Rattle.sheet.specs.Filled.{Filled, filled_start, filled_still, filled_mark, filled_refused, filled_finished}
use Rattle.dvi_step.specs.Step.{state_of, step_of}
use borrow.Author.Rules.{rules}
use Rattle.dvi_page.specs.Stack.{stack_size}
use Rattle.dvi_step.specs.Standing.{Standing, standing_start, standing_next, standing_refused, standing_finished, standing_ended}
use Rattle.dvi_step.specs.declared.State.{State}
use Rattle.dvi_step.specs.declared.Stepped.{Stepped}
use Rattle.dvi_reader.proofs.pass.Goals as goal
use Rattle.dvi_reader.proofs.pass.Goals.{After-step, In-Go, In-Show}

-- what one step says of the file
module _ (c : After-step) where
  abbrev place : ℕ
  place = c.loop-at.at

  abbrev marks : List Mark
  marks = c.loop-at.invariant.0

  abbrev standing : Standing marks_alone c.args.widths.now c.args.dvi.now c.loop-at.stack c.loop-at.q place marks
  standing = c.loop-at.invariant.1.0

  abbrev filled : Filled c.args.writing c.args.out.now c.loop-at.out marks place c.loop-at.to c.loop-at.count
  filled = c.loop-at.invariant.1.1

  abbrev entries : List ℤ
  entries = c.step.new.entries

  whole : length entries ≡ stack_size
  whole = search rules

  stepped : {r : Stepped} → c.step.result ≡ r → step_here c.args.widths.now c.args.dvi.now place (state_of c.loop-at.q c.loop-at.stack) ≡ step_of r entries
  stepped e = sym c.step.ensures ∙ ap (λ (r : Stepped). step_of r entries) e

  -- where a command leads that goes on
  abbrev Further : State → List Mark → ℕ → Type 0
  Further t ms n = Standing marks_alone c.args.widths.now c.args.dvi.now entries t (place + 1 + n) (marks ++ ms)

  further : (t : State) (ms : List Mark) (n : ℕ) {r : Stepped} → c.step.result ≡ r → step_of r entries ≡ go_on (state_of t entries) ms n → Further t ms n
  further t ms n e f = standing_next standing c.loop-at-test.true entries t ms n whole (stepped e ∙ f)

-- the step of a command that goes on, and of one that shows a mark
abbrev step-go : In-Go → After-step
step-go c = record { before = c.before.before; type_inv = record { dvi = c.type_inv.dvi; stack = c.type_inv.stack } }

abbrev step-show : In-Show → After-step
step-show c = record { before = c.before.before; type_inv = record { dvi = c.type_inv.dvi; stack = c.type_inv.stack } }

goes : (c : In-Go) → Further (step-go c) c.in-Go.t [] c.in-Go.n
goes c = further (step-go c) c.in-Go.t [] c.in-Go.n c.in-Go.is refl

showing : (c : In-Show) → Further (step-show c) c.in-Show.t (mark_of c.in-Show.m ∷ []) c.in-Show.n
showing c = further (step-show c) c.in-Show.t (mark_of c.in-Show.m ∷ []) c.in-Show.n c.in-Show.is refl

-- the field of the mark that is shown has room, if writing
room : (c : In-Show) → c.args.writing ≡ true
    → length (mark_fields (marks (step-show c))) + field_size (mark_of c.in-Show.m) + 7 ≤ length c.args.out.now
room c w =
    let ms = marks (step-show c) in
    let m = mark_of c.in-Show.m in
    omega (
      arith,
      shown_room (ms ++ (m ∷ [])) _ (showing c).so_far (c.requires.roomy w),
      ap length (mark_fields_append ms (m ∷ [])),
      length-append (mark_fields ms) (mark_fields (m ∷ [])),
      ap length (one_field m),
      length_mark_field m,
    )

pub loop-at-init : goal.loop-at-init
loop-at-init c =
    let a = c.args in
    ([], (standing_start marks_alone a.widths.now a.dvi.now _ refl, filled_start a.writing a.out.now))

pub step-requires : goal.step-requires
step-requires c =
    let i = c.loop-at.invariant.1.0 in
    (c.loop-at-test.true, (omega (arith, i.within, c.requires.dvi_len_bound), i.low))

pub shape_of-out-in-Refuse : goal.shape_of-out-in-Refuse
shape_of-out-in-Refuse c = (filled (goal.at.shape_of-out-in-Refuse c).After-step).same

-- a refusal that is made at a place
made : {r : Refusal} {q : Reason} {i : ℕ} {x : Shown} → r ≡ record { reason = q; place = i } → x ≡ refused_at (number_in q) i → x ≡ refused_at (number_in r.reason) r.place
made e h = h ∙ ap (λ (r : Refusal). refused_at (number_in r.reason) r.place) (sym e)

pub returns-in-Refuse : goal.returns-in-Refuse
returns-in-Refuse c =
    let s = (goal.at.returns-in-Refuse c).After-step in
    filled_refused (filled s) (made c.at.ensures (standing_refused (standing s) c.loop-at-test.true (number_in c.in-Refuse.reason) (stepped s c.in-Refuse.is))) c.requires.roomy

pub overflow_add-at : goal.overflow_add-at
overflow_add-at c = record { fits = omega (arith, (goes c).within, c.requires.dvi_len_bound) }

pub overflow_add-at-in-Go : goal.overflow_add-at-in-Go
overflow_add-at-in-Go c = record { fits = omega (arith, (goes c).within, c.requires.dvi_len_bound) }

pub loop-at-smaller-in-Go : goal.loop-at-smaller-in-Go
loop-at-smaller-in-Go c = omega (arith, (goes c).within, c.loop-at-test.true)

pub loop-at-preserved-in-Go : goal.loop-at-preserved-in-Go
loop-at-preserved-in-Go c = (_, (goes c, filled_still (filled (goal.at.loop-at-preserved-in-Go c).After-step) _ (omega arith)))

pub show_mark-to-requires : goal.show_mark-to-requires
show_mark-to-requires c =
    let p = filled (goal.at.show_mark-to-requires c).After-step in
    (omega (arith, p.near, (standing (goal.at.show_mark-to-requires c).After-step).within, c.requires.dvi_len_bound), λ w. omega (arith, room (goal.at.show_mark-to-requires c).In-Show w, p.put.place, p.same))

pub overflow_add-count : goal.overflow_add-count
overflow_add-count c =
    record { fits = omega (arith, (filled (goal.at.overflow_add-count c).After-step).few, (standing (goal.at.overflow_add-count c).After-step).within, c.requires.dvi_len_bound) }

pub overflow_add-at-in-Show : goal.overflow_add-at-in-Show
overflow_add-at-in-Show c =
    record { fits = omega (arith, (showing (goal.at.overflow_add-at-in-Show c).In-Show).within, c.requires.dvi_len_bound) }

pub overflow_add-at-in-Show-2 : goal.overflow_add-at-in-Show-2
overflow_add-at-in-Show-2 c =
    record { fits = omega (arith, (showing (goal.at.overflow_add-at-in-Show-2 c).In-Show).within, c.requires.dvi_len_bound) }

pub loop-at-smaller : goal.loop-at-smaller
loop-at-smaller c =
    omega (arith, (showing (goal.at.loop-at-smaller c).In-Show).within, c.loop-at-test.true)

pub loop-at-preserved : goal.loop-at-preserved
loop-at-preserved c =
    let p = c.show_mark-to in
    (_, (showing (goal.at.loop-at-preserved c).In-Show, filled_mark (filled (goal.at.loop-at-preserved c).After-step) _ (mark_of c.in-Show.m) (omega arith) p.ensures p.auto.out))

pub show_end-requires : goal.show_end-requires
show_end-requires c w =
    omega (arith, shown_room (marks (goal.at.show_end-requires c).After-step) _ (standing (goal.at.show_end-requires c).After-step).so_far (c.requires.roomy w), (filled (goal.at.show_end-requires c).After-step).put.place, (filled (goal.at.show_end-requires c).After-step).same)

pub overflow_add-result : goal.overflow_add-result
overflow_add-result c =
    record { fits = omega (arith, (filled (goal.at.overflow_add-result c).After-step).near, (standing (goal.at.overflow_add-result c).After-step).within, c.requires.dvi_len_bound) }

pub shape_of-out-in-Finish : goal.shape_of-out-in-Finish
shape_of-out-in-Finish c = c.show_end.auto.out ∙ (filled (goal.at.shape_of-out-in-Finish c).After-step).same

pub returns-in-Finish : goal.returns-in-Finish
returns-in-Finish c =
    let e = standing_finished (standing (goal.at.returns-in-Finish c).After-step) c.loop-at-test.true (stepped (goal.at.returns-in-Finish c).After-step c.in-Finish.is) in
    filled_finished (filled (goal.at.returns-in-Finish c).After-step) e c.show_end.ensures

pub shape_of-out : goal.shape_of-out
shape_of-out c = c.loop-at.invariant.1.1.same

pub returns : goal.returns
returns c =
    let i = c.loop-at.invariant in
    filled_refused i.1.1 (made c.at-2.ensures (standing_ended i.1.0 c.loop-at-test.false)) c.requires.roomy
