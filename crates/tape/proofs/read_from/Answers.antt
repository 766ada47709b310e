-- `tape::read_from` meets its contract: what the first pass finds, and the room, decide the result; the second pass writes it.
-- Assumes nothing.
use mathlib.Core.Path.{◌≡◌, sym, ap, ◌∙◌}
use mathlib.Core.List.{List}
use Prim.Native.Nat.{ℕ, ◌+◌, ◌*◌, ◌≤◌, ◌<◌}
use native.Mathlib.Omega.{arith}
use borrow.Author.Tests.{not-true, not-false}
use Rattle.std.proofs.lemmas.Result.{err_from_is_err_and}
use lib.ListN.{length}
use lib.Seq.{sets}
use Rattle.std.specs.Prelude.{Ok, Err}
use Rattle.octets.specs.Answer.{accepted, outcome_of}
use Rattle.octets.specs.AnswerLaws.{gives}
use Rattle.galley_file.specs.declared.form.Form.TheVariants.{New}
use Rattle.galley_file.specs.Galley.{fields}
use Rattle.tape.specs.Tape.{run}
use Rattle.tape.specs.ResultLaws.{read_fault, read_cut, read_open, needed, read_short, read_whole, fields_counted}
use Rattle.tape.proofs.Results.{filled}
use Rattle.tape.proofs.read_from.Goals as goal
use Rattle.tape.proofs.read_from.Goals.{After-pass-r, In_ok-s}

-- the bytes of the fields that the first pass has counted
bytes_counted : (c : After-pass-r) → 11 * c.pass-r.result.count + c.pass-r.result.cuts ≡ length (fields New (run c.args.first 0 c.args.tape.now).items)
bytes_counted c = fields_counted _ _ _ c.pass-r.ensures.counted c.pass-r.ensures.cut_bytes

-- the state that the first pass reached
reached : (c : In_ok-s) → (run c.args.first 0 c.args.tape.now).ending ≡ Ok c.in_ok-s.s
reached c = sym c.pass-r.ensures.ended ∙ c.in_ok-s.was

pub returns-in_err-s : goal.returns-in_err-s
returns-in_err-s c =
    let a = c.args in
    let p = c.pass-r in
    let q = err_from_is_err_and c.from_residual.result c.from_residual.ensures.1 in
    gives (read_fault a.first a.tape.now (length a.galley.now) (sym p.ensures.ended ∙ c.in_err-s.was)) (ap outcome_of (q.1 ∙ ap Err q.2)) p.ensures.buffer

pub returns-then-s : goal.returns-then-s
returns-then-s c =
    let a = c.args in
    gives (read_cut a.first a.tape.now (length a.galley.now) _ (reached (goal.at.returns-then-s c).In_ok-s) c.if-s.true) (ap outcome_of (ap Err c.at.ensures)) c.pass-r.ensures.buffer

pub returns-then-not-s : goal.returns-then-not-s
returns-then-not-s c =
    let a = c.args in
    gives (read_open a.first a.tape.now (length a.galley.now) _ (reached (goal.at.returns-then-not-s c).In_ok-s) c.if-s.false (not-true _ c.if-not-s.true)) (ap outcome_of (ap Err c.at-then-not-s.ensures)) c.pass-r.ensures.buffer

pub returns-then-galley-needed : goal.returns-then-galley-needed
returns-then-galley-needed c =
    let at = goal.at.returns-then-galley-needed c in
    let a = c.args in
    let p = c.pass-r in
    let same = p.ensures.buffer in
    let n = bytes_counted at.After-pass-r in
    let short : length a.galley.now < 11 * p.result.count + p.result.cuts + 7 = omega (arith, c.if-galley-needed.true, ap length same) in
    gives (read_short a.first a.tape.now (length a.galley.now) _ (reached at.In_ok-s) c.if-s.false (not-false _ c.if-not-s.false) _ n short) (ap outcome_of (ap Err c.at-then-galley-needed.ensures)) same

pub pass-requires : goal.pass-requires
pass-requires c =
    let p = c.pass-r in
    record { sound = (c.requires.0, omega (arith, c.requires.1)); tape_in_bounds = λ _. omega (arith, bytes_counted (goal.at.pass-requires c).After-pass-r, c.if-galley-needed.false, ap length p.ensures.buffer) }

pub returns : goal.returns
returns c =
    let at = goal.at.returns c in
    let a = c.args in
    let p = c.pass-r in
    let m = c.pass in
    let same = p.ensures.buffer in
    let n = bytes_counted at.After-pass-r in
    let e = reached at.In_ok-s in
    let room : 11 * p.result.count + p.result.cuts + 7 ≤ length a.galley.now = omega (arith, c.if-galley-needed.false, ap length same) in
    let q = read_whole a.first a.tape.now (length a.galley.now) _ e c.if-s.false (not-false _ c.if-not-s.false) _ n room in
    let is = (run a.first 0 a.tape.now).items in
    let w = m.ensures.buffer ∙ ap (λ (g : List ℕ). sets g 0 (fields New is)) same in
    gives
    q
    (ap accepted (sym (needed a.first a.tape.now (length a.galley.now) _ e c.if-s.false (not-false _ c.if-not-s.false) _ n)))
    (filled is p.result.count _ a.galley.now m.new.out c.put_end.new.out p.ensures.counted n room w c.put_end.ensures.buffer_is)
