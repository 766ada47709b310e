-- The tests of the whole call of a reader.
--     too_long, not_whole, readable     one by one
--     call_number                       the number of what is answered is the number that they refuse it with, or 0
--     answer_refused, answer_passed     by what is answered
--     call_refused, call_passed         by that number
-- Assumes nothing.
use Rattle.std.specs.Prelude.{◌≡◌, Bool, List, ℕ, ◌≤◌, ◌<◌, length, Ok, Err, Result as ResultOf}
use Rattle.std.proofs.Math.Path.{refl, ap}
use Rattle.std.proofs.Common.{sym, ◌∙◌, arith, suc-ne-zero, lt-ltb, le-ltb, ltb-false}
use Rattle.std.proofs.Math.Bool.{true, false, cond}
use Rattle.std.proofs.Math.Dec.{ltb}
use Rattle.octets.specs.Answer.{Result, refusal, number_in, file_too_long, widths_not_whole}
use Rattle.octets.specs.declared.refusal.Refusal.{Refusal}
use Rattle.sheet.specs.Readable.{max_file, if_readable, call_refusal, call_answer, length_refusal, widths_refusal}

module _ (file : List ℕ) (whole : Bool) (r : Result) where
  pub too_long : max_file < length file → if_readable file whole r ≡ refusal file_too_long 0
  unfolding if_readable
  too_long h = rw (lt-ltb max_file (length file) h)

  module _ (h : length file ≤ max_file) where
    pub not_whole : whole ≡ false → if_readable file whole r ≡ refusal widths_not_whole 0
    unfolding if_readable
    not_whole e = rw (le-ltb max_file (length file) h, e)

    pub readable : whole ≡ true → if_readable file whole r ≡ r
    unfolding if_readable
    readable e = rw (le-ltb max_file (length file) h, e)

-- the number of an answer, 0 for none
abbrev pub number_given : ResultOf (Unit {0}) Refusal → ℕ
number_given (Ok u) = 0
number_given (Err r) = number_in r.reason

abbrev pub none : ResultOf (Unit {0}) Refusal
none = Ok tt

abbrev answer : Bool → Bool → ResultOf (Unit {0}) Refusal
answer t w = cond t (Err length_refusal) (cond w none (Err widths_refusal))

pub call_number : (length : ℕ) (whole : Bool) → number_given (call_answer length whole) ≡ call_refusal length whole
unfolding call_answer call_refusal
call_number length whole = go (ltb max_file length) whole
  where
    go : (t w : Bool) → number_given (answer t w) ≡ cond t file_too_long (cond w 0 widths_not_whole)
    go true w = refl
    go false true = refl
    go false false = refl

told : (q r : Refusal) → ◌≡◌ {A = ResultOf (Unit {0}) Refusal} (Err r) (Err q) → refusal (number_in q.reason) q.place ≡ refusal (number_in r.reason) r.place
told q r e = let d : q ≡ r = cc in ap (λ (q : Refusal). refusal (number_in q.reason) q.place) d

module _ (file : List ℕ) (whole : Bool) where
  pub answer_refused : {r : Refusal} → Err r ≡ call_answer (length file) whole → (x : Result) → if_readable file whole x ≡ refusal (number_in r.reason) r.place
  unfolding if_readable call_answer
  answer_refused {r} e x = go (ltb max_file (length file)) whole e
    where
      go : (t w : Bool) → Err r ≡ answer t w → cond t (refusal file_too_long 0) (cond w x (refusal widths_not_whole 0)) ≡ refusal (number_in r.reason) r.place
      go true w e = told length_refusal r e
      go false true e = absurd (suc-ne-zero 0 cc)
      go false false e = told widths_refusal r e

  pub answer_passed : none ≡ call_answer (length file) whole → (length file ≤ max_file) × (whole ≡ true)
  unfolding call_answer
  answer_passed e = go (ltb max_file (length file)) refl whole e
    where
      go : (t : Bool) → ltb max_file (length file) ≡ t → (w : Bool) → none ≡ answer t w → (length file ≤ max_file) × (w ≡ true)
      go true q w e = absurd (suc-ne-zero 0 cc)
      go false q true e = (ltb-false max_file (length file) q, refl)
      go false q false e = absurd (suc-ne-zero 0 cc)

-- the same by the number that the tests refuse it with, or 0
module _ (file : List ℕ) (whole : Bool) {k : ℕ} (e : k ≡ call_refusal (length file) whole) where
  pub call_refused : (r : Result) → (k ≡ 0 → ⊥) → if_readable file whole r ≡ refusal k 0
  unfolding if_readable call_refusal
  call_refused r h = go (ltb max_file (length file)) whole (λ z. h (e ∙ z)) ∙ ap (λ (n : ℕ). refusal n 0) (sym e)
    where
      go : (t w : Bool) → (cond t file_too_long (cond w 0 widths_not_whole) ≡ 0 → ⊥)
          → cond t (refusal file_too_long 0) (cond w r (refusal widths_not_whole 0)) ≡ refusal (cond t file_too_long (cond w 0 widths_not_whole)) 0
      go true w g = refl
      go false true g = absurd (g refl)
      go false false g = refl

  pub call_passed : k ≡ 0 → (length file ≤ max_file) × (whole ≡ true)
  unfolding call_refusal
  call_passed z = go (ltb max_file (length file)) refl whole (sym e ∙ z)
    where
      go : (t : Bool) → ltb max_file (length file) ≡ t → (w : Bool) → cond t file_too_long (cond w 0 widths_not_whole) ≡ 0 → (length file ≤ max_file) × (w ≡ true)
      go true q w g = absurd (omega (arith, g))
      go false q true g = (ltb-false max_file (length file) q, refl)
      go false q false g = absurd (omega (arith, g))
