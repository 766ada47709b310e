-- `dvi_back::pass` meets its contract. The invariant: what the file shows so far (`Standing`), and the counts and the buffer of what that
-- makes (`Passes`, `Tallied`). The measure is what is left of the file.
-- Assumes nothing.
use mathlib.Core.Path.{◌≡◌, refl, sym, ap, subst, ◌∙◌}
use mathlib.Core.Bool.{true}
use mathlib.Core.List.{List, [], ◌∷◌, ◌++◌}
use Prim.Native.Nat.{ℕ, ◌+◌}
use native.Mathlib.Omega.{arith}
use lib.IntN.{ℤ}
use lib.ListN.{length}
use mir.Syntax.{w64}
use Rattle.integers.specs.Bits.{plain}
use Rattle.sheet.specs.Sheet.{Mark}
use Rattle.dvi.specs.File.{go_on, PlacedMark, placed_at}
use Rattle.dvi.proofs.FileLaws.{step_here}
use Rattle.dvi.specs.Mark.{mark_of}
use Rattle.dvi_step.specs.Step.{state_of, step_of}
use borrow.Author.Rules.{rules}
use Rattle.dvi_page.specs.Stack.{stack_size}
use Rattle.dvi_step.specs.Standing.{Standing, standing_start, standing_next, standing_refused, standing_finished, standing_ended}
use Rattle.dvi_step.specs.declared.State.{State}
use Rattle.dvi_step.specs.declared.Stepped.{Stepped}
use Rattle.octets.specs.PassLaws.{passed_refused}
use Rattle.dvi_galley.specs.Back.{Made, nothing, with_one_item, item_shown, makes, shown_galley}
use Rattle.dvi_galley.specs.Taken.{taken_of}
use Rattle.dvi_back.specs.Tally.{pages_in}
use Rattle.dvi_back.specs.declared.tally.Tally.{Tally}
use Rattle.dvi_back.proofs.Passes.{Fits, standing_fits, Tallied, tallied_start, tallied_still, tallied_more, tallied_named, tallied_unwritten, marked, more_room, end_room, passed_finished}
use Rattle.std.specs.Prelude.{Option}
use Rattle.octets.specs.Answer.{number_in}
use Rattle.octets.specs.declared.refusal.Refusal.{Refusal}
use Rattle.octets.specs.declared.refusal.Reason.{Reason}
use Rattle.sheet.specs.Shown.{ShownAs, refused_at}
use Rattle.galley_file.specs.declared.item.Item.{Item}
use Rattle.dvi_back.proofs.pass.Goals as goal
use Rattle.dvi_back.proofs.pass.Goals.{After-step}

-- what one step says of the file
module _ (c : After-step) where
  abbrev place : ℕ
  place = c.loop-at.at

  abbrev marks : List PlacedMark
  marks = c.loop-at.invariant.0

  abbrev counts : Tally
  counts = c.loop-at.g

  abbrev standing : Standing placed_at c.args.widths.now c.args.dvi.now c.loop-at.stack c.loop-at.q place marks
  standing = c.loop-at.invariant.1.0

  abbrev tallied : Tallied c.args.writing c.args.out.now c.loop-at.out (makes nothing marks) counts
  tallied = c.loop-at.invariant.1.1

  abbrev entries : List ℤ
  entries = c.step.new.entries

  whole : length entries ≡ stack_size
  whole = search rules

  stepped : {r : Stepped} → c.step.result ≡ r → step_here c.args.widths.now c.args.dvi.now place (state_of c.loop-at.q c.loop-at.stack) ≡ step_of r entries
  stepped e = sym c.step.ensures ∙ ap (λ (r : Stepped). step_of r entries) e

  -- where a command leads that goes on
  abbrev Further : State → List Mark → ℕ → Type 0
  Further t ms n = Standing placed_at c.args.widths.now c.args.dvi.now entries t (place + 1 + n) (marks ++ placed_at place ms)

  further : (t : State) (ms : List Mark) (n : ℕ) {r : Stepped} → c.step.result ≡ r → step_of r entries ≡ go_on (state_of t entries) ms n → Further t ms n
  further t ms n e f = standing_next standing c.loop-at-test.true entries t ms n whole (stepped e ∙ f)

  -- the item that a mark shows
  module _ (t : State) (m : Mark) (n : ℕ) (s : Further t (m ∷ []) n) (i : Option Item) (f : taken_of i ≡ item_shown (pages_in counts) m) where
    abbrev made-next : Made
    made-next = with_one_item (makes nothing marks) place (taken_of i)

    made-is : makes nothing (marks ++ placed_at place (m ∷ [])) ≡ made-next
    made-is = marked marks place m counts i tallied.counted f

    -- with its field there is room, if writing
    next_fits : c.args.writing ≡ true → Fits (length c.args.out.now) made-next
    next_fits w = subst (Fits (length c.args.out.now)) made-is (standing_fits s (length c.args.out.now) (c.requires.roomy w))

pub loop-at-init : goal.loop-at-init
unfolding makes
loop-at-init c =
    let a = c.args in
    ([], (standing_start placed_at a.widths.now a.dvi.now _ refl, tallied_start a.writing a.out.now))

pub step-requires : goal.step-requires
step-requires c =
    let i = c.loop-at.invariant.1.0 in
    (c.loop-at-test.true, (omega (arith, i.within, c.requires.dvi_len_bound), i.low))

pub shape_of-out-in-Refuse : goal.shape_of-out-in-Refuse
shape_of-out-in-Refuse c = (tallied (goal.at.shape_of-out-in-Refuse c).After-step).same

-- a refusal that is made at a place
made : {r : Refusal} {q : Reason} {i : ℕ} {x : ShownAs PlacedMark} → r ≡ record { reason = q; place = i } → x ≡ refused_at (number_in q) i → x ≡ refused_at (number_in r.reason) r.place
made e h = h ∙ ap (λ (r : Refusal). refused_at (number_in r.reason) r.place) (sym e)

pub returns-in-Refuse : goal.returns-in-Refuse
unfolding shown_galley
returns-in-Refuse c =
    let s = (goal.at.returns-in-Refuse c).After-step in
    let e = standing_refused (standing s) c.loop-at-test.true (number_in c.in-Refuse.reason) (stepped s c.in-Refuse.is) in
    passed_refused (ap shown_galley (made c.at.ensures e)) c.requires.roomy (tallied_unwritten (tallied s))

pub overflow_add-at : goal.overflow_add-at
overflow_add-at c =
    let k = (goal.at.overflow_add-at c).After-step in
    let s = further k c.in-Go.t [] c.in-Go.n c.in-Go.is refl in
    record { fits = omega (arith, s.within, c.requires.dvi_len_bound) }

pub overflow_add-at-in-Go : goal.overflow_add-at-in-Go
overflow_add-at-in-Go c =
    let k = (goal.at.overflow_add-at-in-Go c).After-step in
    let s = further k c.in-Go.t [] c.in-Go.n c.in-Go.is refl in
    record { fits = omega (arith, s.within, c.requires.dvi_len_bound) }

pub loop-at-smaller-in-Go : goal.loop-at-smaller-in-Go
loop-at-smaller-in-Go c =
    let k = (goal.at.loop-at-smaller-in-Go c).After-step in
    let s = further k c.in-Go.t [] c.in-Go.n c.in-Go.is refl in
    omega (arith, s.within, c.loop-at-test.true)

pub loop-at-preserved-in-Go : goal.loop-at-preserved-in-Go
loop-at-preserved-in-Go c =
    let k = (goal.at.loop-at-preserved-in-Go c).After-step in
    let s = further k c.in-Go.t [] c.in-Go.n c.in-Go.is refl in
    (_, (s, tallied_still (marks k) (place k) (tallied k)))

pub show_item-requires : goal.show_item-requires
show_item-requires c =
    λ w.
    let k = (goal.at.show_item-requires c).After-step in
    let s = further k c.in-Show.t (mark_of c.in-Show.m ∷ []) c.in-Show.n c.in-Show.is refl in
    let f = c.item_of-i.ensures (pages_in (counts k)) (plain {w = w64} (record { sfits = c.next_page.type_inv }) ∙ c.next_page.ensures) in
    omega (arith, more_room (length c.args.out.now) (makes nothing (marks k)) (counts k) (place k) c.item_of-i.result (tallied k).counted (next_fits k c.in-Show.t (mark_of c.in-Show.m) c.in-Show.n s c.item_of-i.result f w), (tallied k).same)

pub overflow_add-at-in-Show : goal.overflow_add-at-in-Show
overflow_add-at-in-Show c =
    let k = (goal.at.overflow_add-at-in-Show c).After-step in
    let s = further k c.in-Show.t (mark_of c.in-Show.m ∷ []) c.in-Show.n c.in-Show.is refl in
    record { fits = omega (arith, s.within, c.requires.dvi_len_bound) }

pub overflow_add-at-in-Show-2 : goal.overflow_add-at-in-Show-2
overflow_add-at-in-Show-2 c =
    let k = (goal.at.overflow_add-at-in-Show-2 c).After-step in
    let s = further k c.in-Show.t (mark_of c.in-Show.m ∷ []) c.in-Show.n c.in-Show.is refl in
    record { fits = omega (arith, s.within, c.requires.dvi_len_bound) }

pub loop-at-smaller : goal.loop-at-smaller
loop-at-smaller c =
    let k = (goal.at.loop-at-smaller c).After-step in
    let s = further k c.in-Show.t (mark_of c.in-Show.m ∷ []) c.in-Show.n c.in-Show.is refl in
    omega (arith, s.within, c.loop-at-test.true)

pub loop-at-preserved : goal.loop-at-preserved
loop-at-preserved c =
    let k = (goal.at.loop-at-preserved c).After-step in
    let s = further k c.in-Show.t (mark_of c.in-Show.m ∷ []) c.in-Show.n c.in-Show.is refl in
    let f = c.item_of-i.ensures (pages_in (counts k)) (plain {w = w64} (record { sfits = c.next_page.type_inv }) ∙ c.next_page.ensures) in
    let i = c.item_of-i.result in
    let counted = c.with_item-g.ensures (makes nothing (marks k)) (tallied k).counted in
    let t =
    tallied_more (tallied k) (length c.args.out.now) (place k) i c.show_item.ensures c.show_item.auto.out
    (next_fits k c.in-Show.t (mark_of c.in-Show.m) c.in-Show.n s i f) counted in
    (_, (s, tallied_named (sym (made-is k c.in-Show.t (mark_of c.in-Show.m) c.in-Show.n s i f)) t))

pub finish-requires : goal.finish-requires
finish-requires c w =
    let room = length c.args.out.now in
    omega (arith, end_room room (makes nothing (marks (goal.at.finish-requires c).After-step)) (counts (goal.at.finish-requires c).After-step) (tallied (goal.at.finish-requires c).After-step).counted (standing_fits (standing (goal.at.finish-requires c).After-step) room (c.requires.roomy w)), (tallied (goal.at.finish-requires c).After-step).same)

pub shape_of-out-in-Finish : goal.shape_of-out-in-Finish
shape_of-out-in-Finish c = c.finish.auto.out ∙ (tallied (goal.at.shape_of-out-in-Finish c).After-step).same

pub returns-in-Finish : goal.returns-in-Finish
unfolding shown_galley
returns-in-Finish c =
    let e = standing_finished (standing (goal.at.returns-in-Finish c).After-step) c.loop-at-test.true (stepped (goal.at.returns-in-Finish c).After-step c.in-Finish.is) in
    let f = c.finish.ensures in
    passed_finished (tallied (goal.at.returns-in-Finish c).After-step) (ap shown_galley e) f.0 f.1

pub shape_of-out : goal.shape_of-out
shape_of-out c = c.loop-at.invariant.1.1.same

pub returns : goal.returns
unfolding shown_galley
returns c =
    let i = c.loop-at.invariant in
    passed_refused (ap shown_galley (made c.at-2.ensures (standing_ended i.1.0 c.loop-at-test.false))) c.requires.roomy (tallied_unwritten i.1.1)
