-- `xgp_reader::pass` meets its contract: the laws of a turn, a stretch of characters and one code, come first; those of the invariant are in `Passes`.
-- Assumes nothing.
use Rattle.std.specs.Prelude.{Result, Err, Some, get_or, drop}
use Rattle.std.proofs.Common.{◌≡◌, true, ◌<◌, ◌≤◌, ℕ, ◌+◌, ◌-◌, List, [], ◌++◌, length, sym, ap, ◌∙◌, subst, arith, rules, length-append, length-drop}
use Rattle.octets.specs.Answer.{number_in}
use Rattle.octets.specs.Pass.{Passed}
use Rattle.octets.specs.declared.refusal.Refusal.{Refusal}
use Rattle.sheet.specs.Shown.{shown_result}
use Rattle.octets.specs.AnswerLaws.{handed_on}
use Rattle.xgp.specs.Effect.{effect_of}
use Rattle.xgp.specs.declared.state.Effect.{Effect}
use Rattle.sheet.specs.Sheet.{Mark, mark_fields}
use Rattle.sheet.specs.SheetLaws.{fields_most, mark_fields_append}
use Rattle.sheet.specs.ShownLaws.{shown_room}
use Rattle.sheet.specs.Filled.{Filled, filled_start, filled_still, filled_more, filled_refused, filled_finished}
use Rattle.xgp.specs.State.{with_x, page_marks, set_marks}
use Rattle.xgp.specs.File.{Step, go_on, after_effect, read_xgp}
use Rattle.xgp.proofs.FileLaws.{due, SoundStep, length_page_marks, step_sound, step_here}
use Rattle.xgp.specs.declared.state.State.{State}
use Rattle.xgp_step.specs.Step.{step_of}
use Rattle.xgp_step.specs.declared.stretch.Stretch.{Stretch}
use Rattle.xgp_step.proofs.Puts.{length_set_fields}
use Rattle.xgp_reader.proofs.Passes.{Standing, standing_start, standing_next, standing_few, standing_refused, standing_ended, standing_stretch, stepped_off, stepped_on, stepped_within}
use Rattle.xgp_reader.proofs.pass.Goals as goal
use Rattle.xgp_reader.proofs.pass.Goals.{After-set_run-q}

-- where the pass stands after a stretch
module _ (c : After-set_run-q) where
  abbrev ended : Stretch
  ended = c.set_run-q.result

  abbrev state : State
  state = with_x c.loop-at.s ended.x

  abbrev marks : List Mark
  marks = c.loop-at.invariant.0 ++ c.set_run-q.ensures.marks

  standing : Standing c.args.widths.now c.args.spacing c.args.file.now state ended.next marks
  standing =
      let a = c.args in
      standing_stretch a.widths.now a.spacing a.file.now c.loop-at.s c.loop-at.at c.loop-at.invariant.1.0 c.set_run-q.ensures.ran

  filled : Filled c.args.writing c.args.out.now c.set_run-q.new.out marks (ended.next + due state.started) ended.to (c.loop-at.count + (ended.next - c.loop-at.at))
  unfolding with_x
  filled =
      let r = c.set_run-q.ensures in
      let l = r.ran.long in
      let n : c.loop-at.at + due c.loop-at.s.started + length r.marks ≤ ended.next + due c.loop-at.s.started = omega arith in
      let m : c.loop-at.count + (ended.next - c.loop-at.at) ≡ c.loop-at.count + length r.marks = omega arith in
      filled_more c.loop-at.invariant.1.1 _ r.marks n r.put m c.set_run-q.auto.out

  -- the step of the code there
  abbrev here : Step
  here = step_here c.args.widths.now c.args.spacing c.args.file.now ended.next state

  abbrev Further : State → List Mark → ℕ → Type 0
  Further t ms n =
      Standing c.args.widths.now c.args.spacing c.args.file.now t (ended.next + 1 + n) (marks ++ ms)
      × (ended.next + due state.started + length ms ≤ ended.next + 1 + n + due t.started)

  further : ended.next < length c.args.file.now → (t : State) (ms : List Mark) (n : ℕ) → here ≡ go_on t ms n → Further t ms n
  further h t ms n e = (standing_next standing h t ms n e, standing_few standing h t ms n e)

  -- the fields of these marks have room, if writing
  room : (t : State) (ms : List Mark) (n : ℕ) → Further t ms n → c.args.writing ≡ true → length (mark_fields marks) + length (mark_fields ms) + 7 ≤ length c.args.out.now
  room t ms n f w =
      omega (
        arith,
        shown_room (marks ++ ms) _ f.0.so_far (c.requires.roomy w),
        ap length (mark_fields_append marks ms),
        length-append (mark_fields marks) (mark_fields ms),
      )

pub loop-at-init : goal.loop-at-init
loop-at-init c =
    let a = c.args in
    ([], (standing_start a.widths.now a.spacing a.file.now c.start-s.result c.start-s.ensures, filled_still (filled_start a.writing a.out.now) _ (omega arith)))

pub set_run-q-requires-clause-room : goal.set_run-q-requires-clause-room
set_run-q-requires-clause-room c =
    let a = c.args in
    let l = c.loop-at in
    let i = l.invariant in
    let p = i.1.1 in
    λ w. λ at x ms r.
    omega (
      arith,
      shown_room (i.0 ++ ms) _ (standing_stretch a.widths.now a.spacing a.file.now l.s l.at i.1.0 r).so_far (c.requires.roomy w),
      p.put.place,
      p.same,
      ap length (mark_fields_append i.0 ms),
      length-append (mark_fields i.0) (mark_fields ms),
    )

pub returns-in_err-stepped : goal.returns-in_err-stepped
unfolding with_x
returns-in_err-stepped c =
    let k = (goal.at.returns-in_err-stepped c).After-set_run-q in
    let t = stepped_off _ _ _ c.map_err.ensures.cases c.in_err-stepped.was in
    let q : c.in_err-stepped.field-0.0 ≡ record { reason = t.0; place = (ended k).next } = search rules in
    let r : c.from_residual.result ≡ Err (record { reason = t.0; place = (ended k).next }) = handed_on c.from_residual.ensures.1 (ap Err (sym q)) in
    subst (λ (x : Result ℕ Refusal). Passed (shown_result (read_xgp c.args.widths.now c.args.spacing c.args.file.now)) c.args.writing c.args.out.now x c.set_run-q.new.out) (sym r)
    (filled_refused (filled k) {r = record { reason = t.0; place = (ended k).next }} (standing_refused (standing k) c.if-at-file.true (number_in t.0) (sym c.step-found.ensures ∙ ap (step_of (state k)) t.1)) c.requires.roomy)

pub overflow_add-at-then-at-file : goal.overflow_add-at-then-at-file
unfolding with_x
overflow_add-at-then-at-file c =
    let a = c.args in
    let k = (goal.at.overflow_add-at-then-at-file c).After-set_run-q in
    let d = c.in_ok-stepped.stepped in
    let bs = drop ((ended k).next + 1) a.file.now in
    let e = sym c.step-found.ensures ∙ ap (step_of (state k)) (stepped_on _ _ _ c.map_err.ensures.cases c.in_ok-stepped.was) in
    let h = stepped_within (length bs) d.after (state k) d.effect (subst (SoundStep (length bs) (state k)) e (step_sound a.widths.now a.spacing (state k) (get_or a.file.now (ended k).next 0) bs)) in
    record { fits = omega (arith, h, length-drop ((ended k).next + 1) a.file.now, c.requires.file_len_bound, c.if-at-file.true) }

pub loop-at-preserved-in-Moved : goal.loop-at-preserved-in-Moved
unfolding with_x after_effect
loop-at-preserved-in-Moved c =
    let k = (goal.at.loop-at-preserved-in-Moved c).After-set_run-q in
    let d = c.in_ok-stepped.stepped in
    let e = sym c.step-found.ensures ∙ ap (step_of (state k)) (stepped_on _ _ _ c.map_err.ensures.cases c.in_ok-stepped.was) in
    let f = further k c.if-at-file.true c.in-Moved.t [] d.after (e ∙ ap (λ (x : Effect). after_effect d.after (effect_of (state k) (Some x))) c.in-Moved.is) in
    (_, (f.0, filled_still (filled k) _ (omega (arith, f.1))))

pub show_set-to-requires : goal.show_set-to-requires
unfolding with_x after_effect
show_set-to-requires c =
    let k = (goal.at.show_set-to-requires c).After-set_run-q in
    let p = filled k in
    let d = length_page_marks (state k) in
    let f = fields_most (page_marks (state k)) in
    let ms = set_marks (state k) c.in-Set.y.0 c.in-Set.c in
    let j = c.in_ok-stepped.stepped in
    let e = sym c.step-found.ensures ∙ ap (step_of (state k)) (stepped_on _ _ _ c.map_err.ensures.cases c.in_ok-stepped.was) in
    let g = further k c.if-at-file.true c.in-Set.t ms j.after (e ∙ ap (λ (x : Effect). after_effect j.after (effect_of (state k) (Some x))) c.in-Set.is) in (
      omega (arith, p.near, c.requires.file_len_bound, c.if-at-file.true),
      (
        omega (arith, (standing k).pages, (standing k).within, c.requires.file_len_bound),
        λ w. omega (arith, room k c.in-Set.t ms j.after g w, p.put.place, p.same, length_set_fields (state k) c.in-Set.y.0 c.in-Set.c),
      ),
    )

pub loop-at-preserved-in-Set : goal.loop-at-preserved-in-Set
unfolding with_x after_effect
loop-at-preserved-in-Set c =
    let k = (goal.at.loop-at-preserved-in-Set c).After-set_run-q in
    let p = c.show_set-to in
    let ms = set_marks (state k) c.in-Set.y.0 c.in-Set.c in
    let j = c.in_ok-stepped.stepped in
    let e = sym c.step-found.ensures ∙ ap (step_of (state k)) (stepped_on _ _ _ c.map_err.ensures.cases c.in_ok-stepped.was) in
    let f = further k c.if-at-file.true c.in-Set.t ms j.after (e ∙ ap (λ (x : Effect). after_effect j.after (effect_of (state k) (Some x))) c.in-Set.is) in
    let m = ap (λ (n : ℕ). c.loop-at.count + ((ended k).next - c.loop-at.at) + n) (c.number-count.ensures.0 c.in-Set.y.0 c.in-Set.c) in
    (_, (f.0, filled_more (filled k) _ ms f.1 p.ensures m p.auto.out))

pub loop-at-preserved : goal.loop-at-preserved
unfolding with_x
loop-at-preserved c = let k = (goal.at.loop-at-preserved c).After-set_run-q in (_, (standing k, filled k))

pub show_end-requires : goal.show_end-requires
show_end-requires c w =
    let i = c.loop-at.invariant.1 in
    omega (arith, shown_room c.loop-at.invariant.0 _ i.0.so_far (c.requires.roomy w), i.1.put.place, i.1.same)

pub returns : goal.returns
returns c =
    let i = c.loop-at.invariant.1 in
    filled_finished i.1 (standing_ended i.0 c.loop-at-test.false) c.show_end.ensures
