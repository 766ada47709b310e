-- Past a command that alone may come.
--     expect_reads_to       what is read where it should stand
--     expect_inside        the place after it is in the file
--     reads_to_standing     what a reading to a place tells, and reads_to_fault one to a fault
--     head_reads_to         past the preamble and the first bop
-- Assumes nothing.
use mathlib.Core.Path.{◌≡◌, refl, sym, ap, subst, ◌∙◌}
use mathlib.Core.List.{List, []}
use Prim.Native.Nat.{ℕ, ◌≤◌}
use native.Mathlib.Omega.{arith}
use lib.ListN.{length, drop, length-drop, length-append}
use Rattle.std.specs.Prelude.{Result, Ok, Err}
use Rattle.std.specs.Result.{IsErrAnd}
use Rattle.std.proofs.lemmas.Result.{err_from_is_err_and}
use Rattle.galley_file.specs.declared.item.Item.{Item}
use Rattle.dvi2.specs.Writer.{preamble_bytes}
use Rattle.dvi2_reading.specs.Reading.{State, start, opened, in_page, new_page_state, first_bop, bad, read_file}
use Rattle.dvi2_reading.specs.Standing.{Standing}
use Rattle.dvi2_reading.proofs.StandingLaws.{standing_start, Sole, sole_whole, sole_short, sole_other, sole_start, sole_opened}
use Rattle.dvi2_state.specs.declared.page_state.Wrong.{Wrong}
use Rattle.dvi2_state.specs.declared.page_state.Wrong.TheVariants.{Bad, Short}
use Rattle.dvi2_page.specs.Match.{compared}
use Rattle.dvi2_page.proofs.Matches.{whole_is, short_is, other_is}
use Rattle.dvi2_close.specs.declared.expect.NotOurs.{NotOurs}
use Rattle.dvi2_close.specs.Reading.{by_match, expected, Inside, ReadsTo, Ended}

pub expect_reads_to : (s : List ℕ) (q r : State) (at : ℕ) (e : List ℕ) → Standing s q at → Sole q (drop at s) e r → ReadsTo s r (expected s at e)
unfolding expected
expect_reads_to s q r at e k o = go (compared (drop at s) e) refl
  where
    go : (m : Result (Unit {0}) Wrong) → compared (drop at s) e ≡ m → ReadsTo s r (by_match s at e m)
    go (Ok u) h = sole_whole s q r at e k o (drop (length e) (drop at s)) (whole_is (drop at s) e h)
    go (Err Short) h = let b = short_is (drop at s) e h in sole_short s q r at e k o b.more b.whole_is b.some_more
    go (Err Bad) h = sole_other s q r at e k o (other_is (drop at s) e h)

pub expect_inside : (s : List ℕ) (at : ℕ) (e : List ℕ) → at ≤ length s → Inside (length s) (expected s at e)
unfolding expected
expect_inside s at e l = go (compared (drop at s) e) refl
  where
    go : (m : Result (Unit {0}) Wrong) → compared (drop at s) e ≡ m → Inside (length s) (by_match s at e m)
    go (Ok u) h =
        let w = ap length (whole_is (drop at s) e h) in
        omega (arith, w, l, length-append e (drop (length e) (drop at s)), length-drop at s)
    go (Err Short) h = tt
    go (Err Bad) h = tt

pub reads_to_standing : {s : List ℕ} {q : State} {r : Result ℕ NotOurs} {at : ℕ} → r ≡ Ok at → ReadsTo s q r → Standing s q at
reads_to_standing {s} {q} e k = subst (ReadsTo s q) e k

pub reads_to_fault : (s : List ℕ) (q : State) {r : Result ℕ NotOurs} {w : NotOurs} → r ≡ Err w → ReadsTo s q r → read_file s ≡ bad w.place
reads_to_fault s q e k = subst (ReadsTo s q) e k

pub inside_to : {n : ℕ} {r : Result ℕ NotOurs} {at : ℕ} → r ≡ Ok at → Inside n r → at ≤ n
inside_to {n} e k = subst (Inside n) e k

-- what a `?` hands on
pub handed_on : {T E : Type 0} (r : Result T E) {w : E} → IsErrAnd r (λ x. x ≡ w) → r ≡ Err w
handed_on r h = let e = err_from_is_err_and r h in e.1 ∙ ap Err e.2

pub ended_fault : (s : List ℕ) (is : List Item) (r : Result ℕ NotOurs) {w : NotOurs} → IsErrAnd r (λ x. x ≡ w) → read_file s ≡ bad w.place → Ended s is r
ended_fault s is r h k = subst (Ended s is) (sym (handed_on r h)) k

-- ---- the preamble and the first bop

module _ (s e : List ℕ) (r : Result ℕ NotOurs) (p : e ≡ preamble_bytes) (q : r ≡ expected s 0 e) where
  opened_reads_to : ReadsTo s opened r
  opened_reads_to =
      subst (ReadsTo s opened) (ap (expected s 0) (sym p) ∙ sym q) (expect_reads_to s start opened 0 preamble_bytes (standing_start s) (sole_start (drop 0 s)))

  pub head_fault : (w : NotOurs) → r ≡ Err w → read_file s ≡ bad w.place
  head_fault w h = reads_to_fault s opened h opened_reads_to

  pub head_reads_to : (at : ℕ) → r ≡ Ok at → (b : List ℕ) → b ≡ first_bop → (r₂ : Result ℕ NotOurs) → r₂ ≡ expected s at b → ReadsTo s (in_page (new_page_state [])) r₂
  head_reads_to at h b o r₂ q₂ =
      subst (ReadsTo s (in_page (new_page_state []))) (ap (expected s at) (sym o) ∙ sym q₂)
      (expect_reads_to s opened (in_page (new_page_state [])) at first_bop (reads_to_standing h opened_reads_to) (sole_opened (drop at s)))
