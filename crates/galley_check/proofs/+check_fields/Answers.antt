-- `galley_check::check_fields` meets its contract: a run is read, and what follows it decides.
-- Assumes nothing.
use Rattle.std.proofs.Common.{◌≡◌, ℕ, ◌+◌, ◌-◌, ◌*◌, ◌≤◌, List, sym, ap, ◌∙◌, arith, length, take, drop, length-drop}
use Rattle.galley_file.specs.Form.{character_size}
use Rattle.galley_file.specs.FormLaws.{size_times}
use Rattle.galley_file.specs.Galley.{leading}
use Rattle.galley_check.specs.declared.Span.{Span}
use Rattle.galley_check.specs.Span.{SpanOf}
use Rattle.galley_check.proofs.Reading.{part, span_few, run_fits, run_goes_on, run_ends, no_runs, one_run}
use Rattle.galley_check.proofs.+check_fields.Goals as goal
use Rattle.galley_check.proofs.+check_fields.Goals.{After-character_size}

-- the rest of a slice is so long
rest : (n : ℕ) (s : List ℕ) → length (take (length s - n) (drop n s)) ≡ length s - n
rest n s = ap length (part n s) ∙ length-drop n s

-- the run that was read: its items, and the bytes of its fields
module _ (t : ℕ) (c : After-character_size t) where
  abbrev run : Span
  run = c.leading_run-run.result

  run_is : SpanOf run (leading c.args.f 1024 c.args.s.now)
  run_is = c.leading_run-run.ensures

  few : run.characters + run.cuts ≤ 1024
  few = span_few _ 1024 _ _ run_is

  -- where the rest starts
  abbrev to : ℕ
  to = c.character_size.result * run.characters + 3 * run.cuts

  to_is : character_size c.args.f * run.characters + 3 * run.cuts ≡ to
  to_is = sym (ap (λ (n : ℕ). n * run.characters + 3 * run.cuts) c.character_size.ensures.0)

  to_fits : to ≤ length c.args.s.now
  to_fits = omega (arith, to_is, run_fits _ run 1024 _ run_is)

  to_few : run.characters ≤ to
  to_few = omega (arith, to_is, (size_times c.args.f run.characters).0)

  to_most : to ≤ 11 * run.characters + 3 * run.cuts
  to_most = omega (arith, to_is, (size_times c.args.f run.characters).1)

pub returns-then-runs-eq0 : goal.returns-then-runs-eq0
returns-then-runs-eq0 t c = c.check_end.ensures ∙ no_runs _ _ _ _ _ c.if-runs-eq0.true

pub overflow_mul-start : goal.overflow_mul-start
overflow_mul-start t c =
    let k = (goal.at.overflow_mul-start t c).After-character_size in
    let z : c.character_size.result * (run t k).characters ≡ character_size c.args.f * (run t k).characters = ap (λ (n : ℕ). n * (run t k).characters) c.character_size.ensures.0 in
    omega (arith, few t k, z, (size_times c.args.f (run t k).characters).1)

pub overflow_mul-start-2 : goal.overflow_mul-start-2
overflow_mul-start-2 t c = omega (arith, few t (goal.at.overflow_mul-start-2 t c).After-character_size)

pub overflow_add-start : goal.overflow_add-start
overflow_add-start t c = let k = (goal.at.overflow_add-start t c).After-character_size in omega (arith, few t k, to_most t k)

pub slice_bounds-rest-count : goal.slice_bounds-rest-count
slice_bounds-rest-count t c = to_fits t (goal.at.slice_bounds-rest-count t c).After-character_size

pub slice_bounds-rest-start : goal.slice_bounds-rest-start
slice_bounds-rest-start t c = to_fits t (goal.at.slice_bounds-rest-start t c).After-character_size

pub overflow_add-run : goal.overflow_add-run
overflow_add-run t c = omega (arith, few t (goal.at.overflow_add-run t c).After-character_size)

pub overflow_add-at : goal.overflow_add-at
overflow_add-at t c = omega (arith, to_fits t (goal.at.overflow_add-at t c).After-character_size, c.requires)

pub overflow_add-count : goal.overflow_add-count
overflow_add-count t c = let k = (goal.at.overflow_add-count t c).After-character_size in omega (arith, to_fits t k, to_few t k, c.requires)

pub check_fields-requires : goal.check_fields-requires
check_fields-requires t c =
    let k = (goal.at.check_fields-requires t c).After-character_size in
    let r = rest (to t k) c.args.s.now in
    let h = to_fits t k in
    let p = c.requires in
    let e = c.if-runs-eq0.false in
    (omega (arith, p, e), (omega (arith, r, h, p), (omega (arith, to_few t k, p), omega (arith, p))))

pub returns-then-run-eq-RUN : goal.returns-then-run-eq-RUN
returns-then-run-eq-RUN t c =
    let k = (goal.at.returns-then-run-eq-RUN t c).After-character_size in
    c.check_fields.ensures
    ∙ run_goes_on _ (run t k) 1024 _ (run_is t k) _ _ _ _ (to_is t k) c.if-run-eq-RUN.true
    ∙ one_run _ _ _ _ _ c.if-runs-eq0.false

pub overflow_add-at-2 : goal.overflow_add-at-2
overflow_add-at-2 t c = omega (arith, to_fits t (goal.at.overflow_add-at-2 t c).After-character_size, c.requires)

pub overflow_add-count-2 : goal.overflow_add-count-2
overflow_add-count-2 t c = let k = (goal.at.overflow_add-count-2 t c).After-character_size in omega (arith, to_fits t k, to_few t k, c.requires)

pub check_end-requires-2 : goal.check_end-requires-2
check_end-requires-2 t c =
    let k = (goal.at.check_end-requires-2 t c).After-character_size in
    omega (arith, rest (to t k) c.args.s.now, to_fits t k, c.requires)

pub returns : goal.returns
returns t c =
    let k = (goal.at.returns t c).After-character_size in
    c.check_end-2.ensures
    ∙ run_ends _ (run t k) 1024 _ (run_is t k) _ _ _ _ (to_is t k) c.if-run-eq-RUN.false
    ∙ one_run _ _ _ _ _ c.if-runs-eq0.false
