-- The laws of a report over a list of tapes.
--     kept_is             up to 65,536 tapes, the numbers kept are the sums: no sum wraps
--     one_counted         each of them gets 0
--     one_more            and one tape more gets 47
--     any_order           tapes taken in another order give the same report
--     sums                the request, of the numbers kept
--     numbers_add_up      accepted and refused tapes are the tapes
--     fonts_add_up        font counts add up to the characters in accepted galleys
--     leads_add_up        forward less backward is the sum of the heights at which accepted tapes' pages ended
-- Assumes nothing.
use Rattle.std.specs.Prelude.{◌≡◌, ℕ, zero, suc, ◌+◌, ◌*◌, ◌^◌, ◌<◌, ◌≤◌, Bool, true, false, cond, List, [], ◌∷◌, ◌++◌, map, length, ℤ, pos, ◌+ℤ◌, ◌-ℤ◌, nat_lt, slice_index, refl}
use Rattle.std.proofs.Common.{sym, subst, ◌∙◌, arith, length-append}
use Rattle.std.proofs.Math.Path.{ap}
use mathlib.Core.List.{append-nil, Permᴰ}
use Rattle.std.proofs.Math.Nat.{mod-eq_of_lt}
use borrow.Author.Tests.{lt-ltb, le-ltb}
use Rattle.std.proofs.Math.Dec.{lit≤}
use Rattle.std.proofs.Math.Seq.{append_snoc}
use Rattle.integers.specs.Parts.{integers, sum_parts, dif_parts}
use Rattle.integers.specs.Tables.{numbers}
use Rattle.octets.specs.Answer.{accepted, refused, report_full}
use Rattle.figures.specs.Figures.{figures_of, sum64}
use Rattle.report.specs.Report.{amount, entries, added, max_tapes, report_outcome, counted_in}
use Rattle.report.specs.Sums.{Tape, kept, empty, entry, report_of, sum_of, result_of, characters_in, ends_by, sum_heights, heights_in, at, Sums}
use Rattle.report.proofs.AmountLaws.{one_number, all_fonts, sum_add, figures_level, few}

abbrev amount_of : Tape → ℕ → ℕ
amount_of t i = amount (figures_of t.bytes t.machine) i

-- ---- entries are sums

entry_append : (ts us : List Tape) (i : ℕ) → entry (ts ++ us) i ≡ entry ts i + entry us i
unfolding entry
entry_append [] us i = omega arith
entry_append (t ∷ ts) us i = omega (arith, entry_append ts us i)

entry_most : (ts : List Tape) (i : ℕ) → entry ts i ≤ 32505856 * length ts
unfolding entry
entry_most [] i = omega arith
entry_most (t ∷ ts) i = omega (arith, few t i, entry_most ts i)

-- "tapes counted"
pub tapes_counted : (ts : List Tape) → entry ts 0 ≡ length ts
unfolding entry amount
tapes_counted [] = refl
tapes_counted (t ∷ ts) = omega (arith, tapes_counted ts)

sum_entries : (t : Tape) (ts : List Tape) (is : List ℕ) → sum_of (entry (t ∷ ts)) is ≡ sum_of (amount_of t) is + sum_of (entry ts) is
unfolding entry
sum_entries t ts is = sum_add (amount_of t) (entry ts) is

sum_nothing : (is : List ℕ) → sum_of (entry []) is ≡ 0
unfolding sum_of entry
sum_nothing [] = refl
sum_nothing (i ∷ is) = omega (arith, sum_nothing is)

-- ---- the four laws of the request

-- accepted plus refused under each number
pub numbers_add_up : (ts : List Tape) → sum_of (entry ts) (numbers 1 12) ≡ entry ts 0
numbers_add_up ts = go ts ∙ sym (tapes_counted ts)
  where
    go : (ts : List Tape) → sum_of (entry ts) (numbers 1 12) ≡ length ts
    go [] = sum_nothing (numbers 1 12)
    go (t ∷ ts) = sum_entries t ts (numbers 1 12) ∙ omega (arith, one_number t, go ts)

-- "Font counts add up to the characters in accepted galleys"
pub fonts_add_up : (ts : List Tape) → sum_of (entry ts) (numbers 13 120) ≡ characters_in ts
unfolding characters_in
fonts_add_up [] = sum_nothing (numbers 13 120)
fonts_add_up (t ∷ ts) = sum_entries t ts (numbers 13 120) ∙ omega (arith, all_fonts t, fonts_add_up ts)

-- "Forward less backward equals the sum of the heights at which accepted tapes' pages ended, by cut or stop"
pub leads_add_up : (ts : List Tape) → pos (entry ts 133) -ℤ pos (entry ts 134) ≡ heights_in ts
unfolding entry heights_in amount
leads_add_up [] = refl
leads_add_up (t ∷ ts) =
    let f = figures_of t.bytes t.machine in
    more f.forward f.backward (entry ts 133) (entry ts 134) (sum_heights (ends_by t (result_of t))) (heights_in ts) (figures_level t) (leads_add_up ts)
  where
    more : (f b g c : ℕ) (x y : ℤ) → pos f -ℤ pos b ≡ x → pos g -ℤ pos c ≡ y → pos (f + g) -ℤ pos (b + c) ≡ x +ℤ y
    more f b g c x y p q = omega (integers, p, q, dif_parts (pos f) (pos b), dif_parts (pos g) (pos c), dif_parts (pos (f + g)) (pos (b + c)), sum_parts x y)

entry_permuted : {ts us : List Tape} → Permᴰ ts us → (i : ℕ) → entry ts i ≡ entry us i
unfolding entry
entry_permuted Permᴰ.nil i = refl
entry_permuted (Permᴰ.cons e p) i = (λ j. amount_of (e j) i + entry_permuted p i j)
entry_permuted (Permᴰ.swap {a} {b} {l = l} e f) i = swapped (amount_of a i) (amount_of b i) (entry l i) ∙ (λ j. amount_of (f j) i + (amount_of (e j) i + entry l i))
  where
    swapped : (x y z : ℕ) → x + (y + z) ≡ y + (x + z)
    swapped x y z = omega arith
entry_permuted (Permᴰ.trans p q) i = entry_permuted p i ∙ entry_permuted q i

-- "Tapes taken in another order give the same report"
pub any_order : {ts us : List Tape} → Permᴰ ts us → report_of ts ≡ report_of us
unfolding report_of
any_order p = λ j. map (λ i. entry_permuted p i j) (numbers 0 entries)

-- ---- the numbers kept are the sums

added_map : (f g : ℕ → ℕ) (k n : ℕ) → added f k n (map g (numbers k n)) ≡ map (λ i. sum64 (g i) (f i)) (numbers k n)
unfolding added
added_map f g k zero = refl
added_map f g k (suc n) = ap (λ (l : List ℕ). sum64 (g k) (f k) ∷ l) (added_map f g (suc k) n)

first_entry : (ts : List Tape) → slice_index (report_of ts) 0 ≡ length ts
unfolding report_of
first_entry ts = tapes_counted ts

module _ (ts : List Tape) (h : length ts < max_tapes) where
  no_wrap : (t : Tape) (i : ℕ) → sum64 (entry ts i) (amount_of t i) ≡ entry (ts ++ (t ∷ [])) i
  unfolding entry
  no_wrap t i =
      let big : 32505856 * 65537 < 2 ^ 64 = lit≤ tt in
      mod-eq_of_lt (omega (arith, entry_most ts i, few t i, big)) ∙ omega (arith, entry_append ts (t ∷ []) i)

  added_report : (t : Tape) → added (amount_of t) 0 entries (report_of ts) ≡ report_of (ts ++ (t ∷ []))
  unfolding report_of
  added_report t = added_map (amount_of t) (entry ts) 0 entries ∙ (λ j. map (λ i. no_wrap t i j) (numbers 0 entries))

  counted_next : (t : Tape) → counted_in (report_of ts) t.bytes t.machine ≡ report_of (ts ++ (t ∷ []))
  unfolding counted_in
  counted_next t =
      ap (λ (u : Bool). cond u (added (amount_of t) 0 entries (report_of ts)) (report_of ts)) (ap (λ (n : ℕ). nat_lt n max_tapes) (first_entry ts) ∙ lt-ltb _ _ h)
      ∙ added_report t

kept_from : (ts us : List Tape) → length ts + length us ≤ max_tapes → kept (report_of ts) us ≡ report_of (ts ++ us)
unfolding kept
kept_from ts [] h = ap report_of (sym (append-nil ts))
kept_from ts (t ∷ us) h =
    ap (λ (r : List ℕ). kept r us) (counted_next ts (omega arith) t)
    ∙ kept_from (ts ++ (t ∷ [])) us (omega (arith, length-append ts (t ∷ [])))
    ∙ ap report_of (append_snoc ts t us)

no_tapes : empty ≡ report_of []
unfolding report_of entry
no_tapes = refl

pub kept_is : (ts : List Tape) → length ts ≤ max_tapes → kept empty ts ≡ report_of ts
kept_is ts h = ap (λ (r : List ℕ). kept r ts) no_tapes ∙ kept_from [] ts (omega arith)

-- "it is counted and the call returns 0"
pub one_counted : (ts : List Tape) → length ts < max_tapes → report_outcome (kept empty ts) ≡ accepted 0
unfolding report_outcome
one_counted ts h =
    let room : nat_lt (slice_index (kept empty ts) 0) max_tapes ≡ true = ap (λ (l : List ℕ). nat_lt (slice_index l 0) max_tapes) (kept_is ts (omega arith)) ∙ lt-ltb (slice_index (report_of ts) 0) max_tapes (omega (arith, first_entry ts)) in
    ap (λ (u : Bool). cond u (accepted 0) (refused report_full 0)) room

-- the report is full with 65,536 tapes, and stays as it is
pub one_more : (ts : List Tape) → length ts ≡ max_tapes → (t : Tape) → (report_outcome (kept empty ts) ≡ refused report_full 0) × (counted_in (kept empty ts) t.bytes t.machine ≡ kept empty ts)
unfolding report_outcome counted_in
one_more ts h t =
    let r = kept empty ts in
    let full : nat_lt (slice_index r 0) max_tapes ≡ false = ap (λ (l : List ℕ). nat_lt (slice_index l 0) max_tapes) (kept_is ts (omega arith)) ∙ le-ltb (slice_index (report_of ts) 0) max_tapes (omega (arith, first_entry ts)) in (
      ap (λ (u : Bool). cond u (accepted 0) (refused report_full 0)) full,
      ap (λ (u : Bool). cond u (added (amount_of t) 0 entries r) r) full,
    )

-- the sums of the entries of a report are those of its numbers
report_numbers : (ts : List Tape) → sum_of (at (report_of ts)) (numbers 1 12) ≡ sum_of (entry ts) (numbers 1 12)
unfolding sum_of report_of
report_numbers ts = refl

report_fonts : (ts : List Tape) → sum_of (at (report_of ts)) (numbers 13 120) ≡ sum_of (entry ts) (numbers 13 120)
unfolding sum_of report_of
report_fonts ts = refl

report_leads : (ts : List Tape) → pos (at (report_of ts) 133) -ℤ pos (at (report_of ts) 134) ≡ pos (entry ts 133) -ℤ pos (entry ts 134)
unfolding report_of
report_leads ts = refl

pub sums : (ts : List Tape) → length ts ≤ max_tapes → Sums ts (kept empty ts)
sums ts h =
    subst (Sums ts) (sym (kept_is ts h))
    (record {
      tapes = first_entry ts;
      answered = report_numbers ts ∙ numbers_add_up ts ∙ tapes_counted ts;
      fonts = report_fonts ts ∙ fonts_add_up ts;
      leads = report_leads ts ∙ leads_add_up ts;
    })

-- the same of the numbers kept
pub kept_any_order : {ts us : List Tape} → Permᴰ ts us → length ts ≤ max_tapes → kept empty ts ≡ kept empty us
kept_any_order {ts} {us} p h =
    let same = sym (tapes_counted ts) ∙ entry_permuted p 0 ∙ tapes_counted us in
    kept_is ts h ∙ any_order p ∙ sym (kept_is us (omega (arith, same)))
