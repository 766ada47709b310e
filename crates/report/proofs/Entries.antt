-- A report with so much added to its first entries, one entry more at a time; and what a tape adds to each.
-- Assumes nothing.
use Rattle.std.specs.Prelude.{Ok, Err}
use mir.Val.{bool_byte}
use Rattle.octets.specs.declared.refusal.Reason.{Reason}
use Rattle.figures.specs.declared.Lead.{Lead}
use Rattle.std.proofs.Common.{◌≡◌, ℕ, zero, suc, ◌+◌, ◌-◌, ◌<◌, ◌≤◌, Bool, true, false, cond, eqb, ltb, List, [], ◌∷◌, get_or, set, sym, refl, ap, ◌∙◌, add-zero, arith, le-ltb, lt-ltb, eq-eqb, ne_eqb}
use Rattle.figures.specs.Figures.{Figures, sum64}
use Rattle.report.specs.Report.{number_entry, amount, added}
use Rattle.figures.specs.Counting.{Tally, number_found, count_in, Tallied}

added_more : (f : ℕ → ℕ) (k n : ℕ) (xs : List ℕ) → added f k (suc n) xs ≡ set (added f k n xs) n (sum64 (get_or xs n 0) (f (k + n)))
unfolding added
added_more f k zero [] = refl
added_more f k zero (x ∷ xs) = ap (λ (m : ℕ). sum64 x (f m) ∷ xs) (sym (add-zero k))
added_more f k (suc n) [] = refl
added_more f k (suc n) (x ∷ xs) =
    let place : suc k + n ≡ k + suc n = omega arith in
    ap (λ (l : List ℕ). sum64 x (f k) ∷ l) (added_more f (suc k) n xs ∙ ap (λ (m : ℕ). set (added f (suc k) n xs) n (sum64 (get_or xs n 0) (f m))) place)

added_beyond : (f : ℕ → ℕ) (k n : ℕ) (xs : List ℕ) → get_or (added f k n xs) n 0 ≡ get_or xs n 0
unfolding added
added_beyond f k zero xs = refl
added_beyond f k (suc n) [] = refl
added_beyond f k (suc n) (x ∷ xs) = added_beyond f (suc k) n xs

-- the next entry of a report whose first i entries are done
pub added_next : (f : ℕ → ℕ) (i : ℕ) (report now : List ℕ) → now ≡ added f 0 i report → (v : ℕ) → v ≡ sum64 (get_or now i 0) (f i) → set now i v ≡ added f 0 (i + 1) report
added_next f i report now e v w =
    let here : get_or now i 0 ≡ get_or report i 0 = ap (λ (l : List ℕ). get_or l i 0) e ∙ added_beyond f 0 i report in
    let zero-first : i ≡ 0 + i = omega arith in
    let one : suc i ≡ i + 1 = omega arith in
    (λ j. set (e j) i (w j))
    ∙ (λ j. set (added f 0 i report) i (sum64 (here j) (f (zero-first j))))
    ∙ sym (added_more f 0 i report)
    ∙ ap (λ (m : ℕ). added f 0 m report) one

-- ---- what a tape adds, by the entry

as_number : (t : Bool) → bool_byte t ≡ cond t 1 0
as_number true = refl
as_number false = refl

nothing : (t u : Bool) (a b c : ℕ) → 0 ≡ a → 0 ≡ b → 0 ≡ c → 0 ≡ cond t a (cond u b c)
nothing true u a b c p q r = p
nothing false true a b c p q r = q
nothing false false a b c p q r = r

module _ (fonts : List ℕ) (i : ℕ) (f : Figures) where
  pub amount_tapes : i ≡ 0 → 1 ≡ amount f i
  unfolding amount
  amount_tapes e = rw (eq-eqb i 0 e)

  module _ (n : i ≡ 0 → ⊥) where
    pub amount_number : (t : Tally) → Tallied f t fonts → i < 13 → bool_byte (eqb i (number_entry (number_found t))) ≡ amount f i
    unfolding amount
    amount_number t r l = rw (ne_eqb i 0 n, lt-ltb i 13 l) (ap (λ (k : ℕ). bool_byte (eqb i (number_entry k))) r.number ∙ as_number (eqb i (number_entry f.number)))

    module _ (l : 13 ≤ i) where
      pub amount_refused : (q : Reason) → Tallied f (Err q) fonts → 0 ≡ amount f i
      unfolding amount
      amount_refused q r = rw (ne_eqb i 0 n, le-ltb i 13 l) (nothing (ltb i 133) (eqb i 133) _ _ _ (r.counts (i - 13)) r.forward r.backward)

      module _ (lead : Lead) (r : Tallied f (Ok lead) fonts) where
        pub amount_accepted : i < 133 → count_in fonts (i - 13) ≡ amount f i
        unfolding amount
        amount_accepted m = r.counts (i - 13) ∙ rw (ne_eqb i 0 n, le-ltb i 13 l, lt-ltb i 133 m)

        pub amount_forward : 133 ≤ i → i ≡ 133 → lead.forward ≡ amount f i
        unfolding amount
        amount_forward m e = r.forward ∙ rw (ne_eqb i 0 n, le-ltb i 13 l, le-ltb i 133 m, eq-eqb i 133 e)

        pub amount_backward : 133 ≤ i → (i ≡ 133 → ⊥) → lead.backward ≡ amount f i
        unfolding amount
        amount_backward m e = r.backward ∙ rw (ne_eqb i 0 n, le-ltb i 13 l, le-ltb i 133 m, ne_eqb i 133 e)
