-- `dvi2_turn::turn::take_turn` meets its contract: the step of the definition, and what follows an eop.
-- Assumes nothing.
use mathlib.Core.Path.{refl, sym, ap, subst, ◌∙◌}
use Prim.Native.Nat.{◌+◌}
use native.Mathlib.Omega.{arith}
use Rattle.std.specs.Prelude.{Ok, Err}
use Rattle.dvi2_reading.specs.Reading.{in_page, between}
use Rattle.dvi2_reading.specs.Standing.{Standing}
use Rattle.dvi2_reading.proofs.StandingLaws.{standing_go, standing_refuse, standing_short}
use Rattle.dvi2_state.specs.Page.{page_state_of, step_of}
use Rattle.dvi2_turn.proofs.Stands.{sound}
use Rattle.dvi2_turn.proofs.Tallies.{known, count_is, tally_ranged}
use Rattle.dvi2_turn.proofs.Turns.{put_turned, turned_before}
use Rattle.dvi2_turn.proofs.turn.take_turn.Goals as goal

pub overflow_add-t : goal.overflow_add-t
overflow_add-t c =
    let p = c.requires in
    let t = tally_ranged _ p.1.items p.1.tally p.1.standing.reached.writable in
    omega (arith, t.few, t.few_cuts)

pub step-requires : goal.step-requires
step-requires c = let p = c.requires in (p.0.0, sound _ p.1.items _ _ p.1.standing)

pub ended-requires : goal.ended-requires
ended-requires c =
    let p = c.requires in
    let t = tally_ranged _ p.1.items p.1.tally p.1.standing.reached.writable in
    (p.0.1, t)

pub overflow_add-result-in-Ok-Go-2 : goal.overflow_add-result-in-Ok-Go-2
overflow_add-result-in-Ok-Go-2 c =
    let a = c.args in
    let is = c.requires.1.items in
    let k = c.requires.1.tally in
    let j = c.requires.1.standing in
    omega (arith, c.requires.0.1, (standing_go a.dvi.now (in_page (page_state_of is a.h)) a.at j c.requires.0.0 _ _ (ap (step_of is a.h) (sym (c.in-Ok-Go.is ∙ ap Ok c.in-Ok-Go.field-0-is)) ∙ c.step.ensures is (count_is a.t is k j.reached.writable) (known a.t is k j.reached.writable))).inside)

pub returns-in-Err-Bad : goal.returns-in-Err-Bad
returns-in-Err-Bad c =
    let a = c.args in
    let s = a.dvi.now in
    λ is k j. standing_refuse s (in_page (page_state_of is a.h)) a.at j c.requires.0.0 (ap (step_of is a.h) (sym (c.in-Err-Bad.is ∙ ap Err c.in-Err-Bad.field-0-is)) ∙ c.step.ensures is (count_is a.t is k j.reached.writable) (known a.t is k j.reached.writable))

pub returns-in-Err-Short : goal.returns-in-Err-Short
returns-in-Err-Short c =
    let a = c.args in
    let s = a.dvi.now in
    λ is k j. standing_short s (in_page (page_state_of is a.h)) a.at j c.requires.0.0 (ap (step_of is a.h) (sym (c.in-Err-Short.is ∙ ap Err c.in-Err-Short.field-0-is)) ∙ c.step.ensures is (count_is a.t is k j.reached.writable) (known a.t is k j.reached.writable))

pub returns-in-Ok-End : goal.returns-in-Ok-End
returns-in-Ok-End c =
    let a = c.args in
    let s = a.dvi.now in
    λ is k j.
    turned_before s is a.at (a.at + 1) c.ended.result (omega arith)
    (c.ended.ensures is k (standing_go s (in_page (page_state_of is a.h)) a.at j c.requires.0.0 (between is) 0 (ap (step_of is a.h) (sym (c.in-Ok-End.is ∙ ap Ok c.in-Ok-End.field-0-is)) ∙ c.step.ensures is (count_is a.t is k j.reached.writable) (known a.t is k j.reached.writable))))

pub returns-in-Ok-Put : goal.returns-in-Ok-Put
returns-in-Ok-Put c =
    let a = c.args in
    let s = a.dvi.now in
    λ is k j.
    put_turned s is a.at a.h _ _ _ (standing_go s (in_page (page_state_of is a.h)) a.at j c.requires.0.0 _ 1 (ap (step_of is a.h) (sym (c.in-Ok-Put.is ∙ ap Ok c.in-Ok-Put.field-0-is)) ∙ c.step.ensures is (count_is a.t is k j.reached.writable) (known a.t is k j.reached.writable))) c.character-c.ensures refl

pub returns-in-Ok-Go : goal.returns-in-Ok-Go
returns-in-Ok-Go c =
    let a = c.args in
    let s = a.dvi.now in
    λ is k j.
    let g = standing_go s (in_page (page_state_of is a.h)) a.at j c.requires.0.0 _ _ (ap (step_of is a.h) (sym (c.in-Ok-Go.is ∙ ap Ok c.in-Ok-Go.field-0-is)) ∙ c.step.ensures is (count_is a.t is k j.reached.writable) (known a.t is k j.reached.writable)) in
    (omega arith, subst (Standing s _) (omega arith) g)
