-- `dvi2_turn::turn::ended` meets its contract: post and the end of the file, or a further bop.
-- Assumes nothing.
use mathlib.Core.Path.{sym, subst}
use mathlib.Core.List.{[], ◌∷◌, ◌++◌}
use native.Mathlib.Omega.{arith}
use Rattle.galley_file.specs.declared.item.Item.TheVariants.{Cut}
use Rattle.dvi2_reading.specs.Reading.{in_page, between, new_page_state, at_end}
use Rattle.dvi2_reading.proofs.StandingLaws.{standing_refuse, standing_end, full_refuse}
use Rattle.dvi2_turn.specs.Turn.{Turned}
use Rattle.dvi2_close.proofs.Expected.{reads_to_standing, reads_to_fault, handed_on}
use Rattle.dvi2_turn.proofs.Tallies.{count_is}
use Rattle.dvi2_turn.proofs.Turns.{cut_turned}
use Rattle.dvi2_turn.proofs.turn.ended.Goals as goal

pub returns-then-dvi-at : goal.returns-then-dvi-at
unfolding at_end
returns-then-dvi-at c = λ is k j. standing_end _ (between is) _ j c.if-dvi-at.true

pub returns-then-t-ge-MAX_ITEMS : goal.returns-then-t-ge-MAX_ITEMS
returns-then-t-ge-MAX_ITEMS c =
    let a = c.args in
    let s = a.dvi.now in
    λ is k j.
    standing_refuse s (between is) a.at j (omega (arith, c.if-dvi-at.false))
    (sym (full_refuse s is _ _ (omega (arith, c.if-t-ge-MAX_ITEMS.true, count_is a.t is k j.reached.writable)) c.if-dvi-at-2.false))

pub returns : goal.returns
returns c =
    let a = c.args in
    let s = a.dvi.now in
    λ is k j.
    cut_turned s is a.at _ c.new_page.result j (c.new_page.ensures.1 _)
    (reads_to_standing c.in_ok-to.was (c.to_page.ensures is k (omega (arith, c.if-t-ge-MAX_ITEMS.false, count_is a.t is k j.reached.writable)) j))

pub returns-in_err-to : goal.returns-in_err-to
returns-in_err-to c =
    let a = c.args in
    let s = a.dvi.now in
    λ is k j.
    subst (Turned s is a.at) (sym (handed_on _ c.from_residual-in_err-to.ensures.1))
    (reads_to_fault s (in_page (new_page_state (is ++ (Cut ∷ [])))) c.in_err-to.was (c.to_page.ensures is k (omega (arith, c.if-t-ge-MAX_ITEMS.false, count_is a.t is k j.reached.writable)) j))
