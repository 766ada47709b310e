-- `dvi_plain::pass` meets its contract. The invariant and its laws are in `Paging`; the measure is what is left of the file.
-- Assumes nothing.
use mathlib.Core.Path.{◌≡◌, sym, ap, subst, ◌∙◌}
use mathlib.Core.List.{[], ◌∷◌, ◌++◌}
use Prim.Native.Nat.{ℕ}
use native.Mathlib.Omega.{arith}
use lib.IntN.{ℤ}
use mir.Syntax.{w32}
use mir.Val.{to_z}
use mir.ValLaws.{to_z_pos}
use Rattle.octets.specs.Write.{put_still}
use Rattle.octets.specs.PassLaws.{passed_refused}
use Rattle.sheet.specs.Shown.{shown_result}
use Rattle.sheet.specs.ShownLaws.{shown_room}
use Rattle.sheet.specs.Filled.{filled_refused, filled_finished}
use Rattle.dvi.specs.File.{between}
use Rattle.dvi.proofs.FileLaws.{step_here}
use Rattle.dvi.specs.Mark.{mark_of}
use Rattle.dvi_step.specs.Step.{step_of}
use Rattle.dvi_step.specs.declared.Stepped.{Stepped}
use Rattle.dvi_brackets.specs.Reading.{run_marks}
use Rattle.dvi_plain.specs.Page.{page_run}
use Rattle.dvi_plain.proofs.Paging.{bop_shows, bop_inside, Paged, paged_start, paged_over, paged_refused, paged_finished, page_refused, paged_next, page_room}
use Rattle.std.specs.Prelude.{Err, Result as ResultOf}
use Rattle.std.proofs.lemmas.Result.{err_from_is_err_and}
use Rattle.octets.specs.Answer.{number_in}
use Rattle.octets.specs.Pass.{Passed}
use Rattle.octets.specs.declared.refusal.Refusal.{Refusal}
use Rattle.octets.specs.declared.refusal.Reason.{Reason}
use Rattle.sheet.specs.Shown.{Shown, refused_at}
use Rattle.dvi.specs.File.{read_dvi}
use Rattle.dvi_plain.proofs.pass.Goals as goal
use Rattle.dvi_plain.proofs.pass.Goals.{After-between_pages}

pub loop-at-init : goal.loop-at-init
loop-at-init c = let a = c.args in ([], paged_start a.widths.now a.dvi.now a.writing a.out.now)

-- what the command between pages says
stepped : (c : After-between_pages) {b : Stepped} → c.between_pages.result ≡ b
    → step_here c.args.widths.now c.args.dvi.now c.loop-at.at (between (to_z w32 c.loop-at.last-bits)) ≡ step_of b []
stepped c e = sym (c.between_pages.ensures c.args.widths.now []) ∙ ap (λ (b : Stepped). step_of b []) e

-- a refusal that is made at a place
made : {r : Refusal} {q : Reason} {i : ℕ} {x : Shown} → r ≡ record { reason = q; place = i } → x ≡ refused_at (number_in q) i → x ≡ refused_at (number_in r.reason) r.place
made e h = h ∙ ap (λ (r : Refusal). refused_at (number_in r.reason) r.place) (sym e)

pub returns-in-Refuse : goal.returns-in-Refuse
returns-in-Refuse c =
    let g = c.loop-at.invariant.1 in
    filled_refused g.filled (made c.at.ensures (paged_refused _ _ _ _ g c.loop-at-test.true (stepped (goal.at.returns-in-Refuse c).After-between_pages c.in-Refuse.is))) c.requires.roomy

pub returns-in-Go : goal.returns-in-Go
returns-in-Go c =
    let l = c.loop-at in
    let z : ◌≡◌ {A = ℕ} 0 1 = bop_shows c.args.widths.now c.args.dvi.now l.at (to_z w32 l.last-bits) c.loop-at-test.true (stepped (goal.at.returns-in-Go c).After-between_pages c.in-Go.is) in
    absurd (omega (arith, z))

-- BOP

pub read_page-requires-clause-bop_bytes_in_bounds :
    goal.read_page-requires-clause-bop_bytes_in_bounds
read_page-requires-clause-bop_bytes_in_bounds c =
    let l = c.loop-at in
    let g = l.invariant.1 in
    let e = stepped (goal.at.read_page-requires-clause-bop_bytes_in_bounds c).After-between_pages c.in-Show.is in
    let i = bop_inside c.args.widths.now c.args.dvi.now l.at (to_z w32 l.last-bits) c.loop-at-test.true e in
    (i, (c.requires.dvi_len_bound, record { low = omega (arith, i, c.requires.dvi_len_bound); near = g.filled.near; few = g.filled.few }))

pub read_page-requires-clause-roomy_run : goal.read_page-requires-clause-roomy_run
read_page-requires-clause-roomy_run c w =
    let g = c.loop-at.invariant.1 in
    let e = stepped (goal.at.read_page-requires-clause-roomy_run c).After-between_pages c.in-Show.is in
    let r = page_room _ _ _ _ g c.loop-at-test.true e (c.requires.roomy w) in
    record { accepted = r.accepted; enough = omega (arith, r.enough, g.filled.same) }

pub returns-in_err-end-in-Show : goal.returns-in_err-end-in-Show
unfolding shown_result
returns-in_err-end-in-Show c =
    let g = c.loop-at.invariant.1 in
    let d = c.in_err-end-in-Show.ensures in
    let e = stepped (goal.at.returns-in_err-end-in-Show c).After-between_pages c.in-Show.is in
    let f = page_refused _ _ _ _ g c.loop-at-test.true e d.0 in
    let p = err_from_is_err_and c.from_residual.result c.from_residual.ensures.1 in
    subst (λ (r : ResultOf ℕ Refusal). Passed (shown_result (read_dvi c.args.widths.now c.args.dvi.now)) c.args.writing c.args.out.now r c.read_page.new.out) (sym (p.1 ∙ ap Err p.2))
    (passed_refused (ap shown_result f) c.requires.roomy (λ z. d.1 z ∙ put_still z g.filled.put))

pub loop-at-preserved : goal.loop-at-preserved
loop-at-preserved c =
    let a = c.args in
    let l = c.loop-at in
    let g = l.invariant.1 in
    let e = stepped (goal.at.loop-at-preserved c).After-between_pages c.in-Show.is in
    let i = bop_inside a.widths.now a.dvi.now l.at (to_z w32 l.last-bits) c.loop-at-test.true e in
    let last-is = to_z_pos w32 l.at (omega (arith, i, c.requires.dvi_len_bound)) in
    let p = paged_next _ _ _ _ g c.loop-at-test.true e c.in_ok-end-in-Show.ensures c.read_page.auto.out in
    let ms = l.invariant.0 ++ (mark_of c.in-Show.m ∷ run_marks (page_run a.widths.now a.dvi.now l.at)) in
    (ms, subst (λ (z : ℤ). Paged a.widths.now a.dvi.now a.writing a.out.now z c.in_ok-end-in-Show.end.at ms c.read_page.new.out c.in_ok-end-in-Show.end.to c.in_ok-end-in-Show.end.count) (sym last-is) p)

pub show_end-requires : goal.show_end-requires
show_end-requires c w =
    let g = c.loop-at.invariant.1 in
    omega (arith, shown_room c.loop-at.invariant.0 _ g.so_far (c.requires.roomy w), g.filled.put.place, g.filled.same)

pub returns-in-Finish : goal.returns-in-Finish
returns-in-Finish c =
    let g = c.loop-at.invariant.1 in
    filled_finished g.filled (paged_finished _ _ _ _ g c.loop-at-test.true (stepped (goal.at.returns-in-Finish c).After-between_pages c.in-Finish.is)) c.show_end.ensures

pub returns : goal.returns
returns c =
    let g = c.loop-at.invariant.1 in
    filled_refused g.filled (made c.at-2.ensures (paged_over _ _ _ _ g c.loop-at-test.false)) c.requires.roomy
