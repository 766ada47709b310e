-- `dvi_plain::read_page` meets its contract: the mark of BOP comes before the marks of the run, and how the run ends is how the page does.
-- Assumes nothing.
use mathlib.Core.Path.{◌≡◌, refl, sym, ap, subst, ◌∙◌}
use mathlib.Core.Bool.{false}
use mathlib.Core.List.{List, []}
use Prim.Native.Nat.{ℕ, ◌+◌, ◌-◌}
use native.Mathlib.Omega.{arith}
use lib.IntN.{ℤ}
use lib.ListN.{length, take, drop, length-drop}
use Rattle.octets.specs.Write.{put_still, put_then}
use Rattle.sheet.specs.Sheet.{mark_fields}
use Rattle.sheet.specs.SheetLaws.{length_mark_field, field_size_most}
use Rattle.dvi.specs.Page as S
use Rattle.dvi.specs.Page.{max_stack, new_page}
use Rattle.dvi.specs.Mark.{mark_of}
use Rattle.dvi_brackets.specs.Brackets as B
use Rattle.dvi_brackets.specs.Brackets.{page_then}
use Rattle.dvi_brackets.proofs.BracketsLaws.{part}
use Rattle.dvi_brackets.specs.Reading.{run_marks, bracket_run, RoomyRun, RunDone}
use Rattle.dvi_brackets.specs.declared.Run.{Run}
use Rattle.dvi_plain.specs.Page.{bop_bytes, page_run}
use Rattle.dvi_plain.proofs.Paging.{WithinFile, run_within}
use Rattle.octets.specs.Answer.{number_in}
use Rattle.octets.specs.declared.refusal.Refusal.{Refusal}
use Rattle.octets.specs.declared.refusal.Reason.{Reason}
use Rattle.sheet.specs.Shown.{Shown, refused_at}
use Rattle.dvi_plain.proofs.read_page.Goals as goal
use Rattle.dvi_plain.proofs.read_page.Goals.{After-read_run-r}

pub show_mark-first-requires : goal.show_mark-first-requires
show_mark-first-requires c =
    (omega (arith, c.requires.bop_bytes_in_bounds), λ w. omega (arith, (c.requires.roomy_run w).enough, length_mark_field (mark_of c.args.m)))

-- the slice after BOP
abbrev rest : List ℕ → ℕ → List ℕ
rest s at = take (length s - (at + bop_bytes)) (drop (at + bop_bytes) s)

rest_is : (s : List ℕ) (at : ℕ) → rest s at ≡ drop (at + bop_bytes) s
rest_is s at = part (at + bop_bytes) s

rest-long : (s : List ℕ) (at : ℕ) → length (rest s at) ≡ length s - (at + bop_bytes)
rest-long s at = ap length (rest_is s at) ∙ length-drop (at + bop_bytes) s

-- the run that the code reads is that of the page
body_is : (ws : List ℤ) (s : List ℕ) (at : ℕ) {p : S.Page} → p ≡ new_page → B.run ws max_stack (at + bop_bytes) p 0 (rest s at) ≡ page_run ws s at
body_is ws s at e = (λ i. B.run ws max_stack (at + bop_bytes) (e i) 0 (rest_is s at i))

pub read_run-r-requires : goal.read_run-r-requires
read_run-r-requires c =
    let a = c.args in
    let m = mark_of a.m in
    let h = c.requires.bop_bytes_in_bounds in
    let shown = c.show_mark-first.ensures in
    record {
      s_bound = (
        omega (arith, rest-long a.dvi.now a.at, h),
        record {
          low = omega (arith, h);
          near = omega (arith, shown.place, h, length_mark_field m, field_size_most m);
          few = omega (arith, h);
        },
      );
      roomy_run = (λ w.
          let r = c.requires.roomy_run w in
          let k = c.show_mark-first.auto.out in
          subst (λ (x : B.Run). RoomyRun x c.show_mark-first.result (length c.show_mark-first.new.out)) (sym (body_is a.widths.now a.dvi.now a.at (c.new.ensures [])))
          (record { accepted = r.accepted; enough = omega (arith, r.enough, shown.place, k) }));
    }

-- what the run has done
module _ (c : After-read_run-r) where
  abbrev page : B.Run
  page = page_run c.args.widths.now c.args.dvi.now c.args.at

  abbrev later : List ℕ
  later = c.read_run-r.new.out

  abbrev Done : B.Run → Run → Type 0
  Done x r = RunDone x c.args.writing c.show_mark-first.new.out c.show_mark-first.result (c.args.count + 1) r later

  done : {r : Run} → c.read_run-r.result ≡ r → Done page r
  done e =
      subst (Done page) e
      (subst (λ (x : B.Run). Done x c.read_run-r.result) (body_is c.args.widths.now c.args.dvi.now c.args.at (c.new.ensures [])) c.read_run-r.ensures)

  found : {r : Run} → c.read_run-r.result ≡ r → page ≡ bracket_run r (run_marks page)
  found e = sym (done e).found

  within : {r : Run} → c.read_run-r.result ≡ r → WithinFile c.args.at c.args.dvi.now (bracket_run r (run_marks page))
  within e = run_within _ _ _ c.requires.bop_bytes_in_bounds.0 (found e)

  still : c.args.writing ≡ false → later ≡ c.args.out.now
  still e = put_still e (done refl).put ∙ put_still e c.show_mark-first.ensures

pub overflow_add-start-in-Pop : goal.overflow_add-start-in-Pop
overflow_add-start-in-Pop c = record { fits = omega (arith, within (goal.at.overflow_add-start-in-Pop c).After-read_run-r c.in-Pop.is, c.requires.bop_bytes_in_bounds) }

pub overflow_add-result : goal.overflow_add-result
overflow_add-result c = record { fits = omega (arith, within (goal.at.overflow_add-result c).After-read_run-r c.in-Eop.is, c.requires.bop_bytes_in_bounds) }

pub overflow_add-result-in-Eop : goal.overflow_add-result-in-Eop
overflow_add-result-in-Eop c = record { fits = omega (arith, within (goal.at.overflow_add-result-in-Eop c).After-read_run-r c.in-Eop.is, c.requires.bop_bytes_in_bounds) }

-- a refusal that is made at a place
made : {r : Refusal} {q : Reason} {i : ℕ} {x : Shown} → r ≡ record { reason = q; place = i } → x ≡ refused_at (number_in q) i → x ≡ refused_at (number_in r.reason) r.place
made e h = h ∙ ap (λ (r : Refusal). refused_at (number_in r.reason) r.place) (sym e)

pub returns-in-Fault : goal.returns-in-Fault
unfolding page_then
returns-in-Fault c =
    (λ rest. made c.at.ensures (ap (λ (x : B.Run). page_then (c.args.at + bop_bytes) x rest) (found (goal.at.returns-in-Fault c).After-read_run-r c.in-Fault.is)), still (goal.at.returns-in-Fault c).After-read_run-r)

pub returns-in-Pop : goal.returns-in-Pop
unfolding page_then
returns-in-Pop c =
    (λ rest. made c.at-in-Pop.ensures (ap (λ (x : B.Run). page_then (c.args.at + bop_bytes) x rest) (found (goal.at.returns-in-Pop c).After-read_run-r c.in-Pop.is)), still (goal.at.returns-in-Pop c).After-read_run-r)

pub returns-in-Eop : goal.returns-in-Eop
unfolding mark_fields
returns-in-Eop c =
    let e = c.in-Eop.is in
    record {
      bytes = c.in-Eop.n;
      run_is = found (goal.at.returns-in-Eop c).After-read_run-r e;
      next_is = refl;
      put = put_then c.show_mark-first.ensures (done (goal.at.returns-in-Eop c).After-read_run-r e).put;
      counted = omega (arith, (done (goal.at.returns-in-Eop c).After-read_run-r e).counted);
    }
