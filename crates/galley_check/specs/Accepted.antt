-- That the check accepts a galley, with or without the limit of heights.
--     IsAccepted      it gives no refusal, and this number of characters
--     IsLow           so does the check with the limit
--     accepted_as, low_as       the outcome of such a check
--     as_accepted, as_low       and back
use Rattle.std.specs.Prelude.{◌≡◌, Bool, true, false, cond, List, [], ◌∷◌, ℕ, ltb, length}
use Rattle.std.proofs.Common.{◌<◌, sym, ap, arith}
use Rattle.std.proofs.Math.Option.{Option, none, some}
use Rattle.octets.specs.Answer.{accepted, refused, numbers_of, galley_too_long}
use Rattle.galley_file.specs.declared.item.Item.{Item}
use Rattle.galley_file.specs.declared.form.Form.{Form}
use Rattle.galley_file.specs.declared.form.Form.TheVariants.{New}
use Rattle.galley_file.specs.Form.{max_galley}
use Rattle.galley_file.specs.Galley.{Reading, whole, malformed, read_galley}
use Rattle.galley_file.specs.Outcome.{count_outcome, check_outcome}
use Rattle.galley_check.specs.Low.{first_high, low_count, low_check, low_outcome}

abbrev pub IsAccepted : Form → List ℕ → ℕ → Type 0
IsAccepted form g count = numbers_of (check_outcome form g) ≡ 0 ∷ 0 ∷ count ∷ []

abbrev pub IsLow : List ℕ → ℕ → Type 0
IsLow g count = numbers_of (low_outcome g) ≡ 0 ∷ 0 ∷ count ∷ []

same_count : (n count : ℕ) → numbers_of (accepted n) ≡ 0 ∷ 0 ∷ count ∷ [] → accepted count ≡ accepted n
same_count n count e = let k : n ≡ count = cc in ap accepted (omega arith)

not_refused : {A : Type 0} (number place count : ℕ) → 0 < number → numbers_of (refused number place) ≡ 0 ∷ 0 ∷ count ∷ [] → A
not_refused number place count h e = let k : number ≡ 0 = cc in absurd (omega arith)

pub accepted_as : (form : Form) (g : List ℕ) (count : ℕ) → IsAccepted form g count → accepted count ≡ check_outcome form g
unfolding check_outcome
accepted_as form g count e = go (ltb (max_galley form) (length g)) (read_galley form g) e
  where
    go : (t : Bool) (r : Reading) → numbers_of (cond t (refused galley_too_long 0) (count_outcome 0 r)) ≡ 0 ∷ 0 ∷ count ∷ []
        → accepted count ≡ cond t (refused galley_too_long 0) (count_outcome 0 r)
    go true r h = not_refused galley_too_long 0 count (omega arith) h
    go false (whole is) h = same_count _ count h
    go false (malformed p) h = not_refused 41 p count (omega arith) h

pub as_accepted : (form : Form) (g : List ℕ) (count : ℕ) → accepted count ≡ check_outcome form g → IsAccepted form g count
as_accepted form g count e = ap numbers_of (sym e)

pub low_as : (g : List ℕ) (count : ℕ) → IsLow g count → accepted count ≡ low_outcome g
unfolding low_outcome
low_as g count e = go (ltb (max_galley New) (length g)) (read_galley New g) e
  where
    counted : (o : Option ℕ) (is : List Item) → numbers_of (low_count o is) ≡ 0 ∷ 0 ∷ count ∷ [] → accepted count ≡ low_count o is
    counted none is h = same_count _ count h
    counted (some p) is h = not_refused 43 p count (omega arith) h

    go : (t : Bool) (r : Reading) → numbers_of (cond t (refused galley_too_long 0) (low_check r)) ≡ 0 ∷ 0 ∷ count ∷ []
        → accepted count ≡ cond t (refused galley_too_long 0) (low_check r)
    go true r h = not_refused galley_too_long 0 count (omega arith) h
    go false (whole is) h = counted (first_high is 0) is h
    go false (malformed p) h = not_refused 41 p count (omega arith) h

pub as_low : (g : List ℕ) (count : ℕ) → accepted count ≡ low_outcome g → IsLow g count
as_low g count e = ap numbers_of (sym e)
