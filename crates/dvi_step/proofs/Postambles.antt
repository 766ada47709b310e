-- The postamble, read from a place in the file.
-- Assumes nothing.
use mathlib.Core.Path.{◌≡◌, refl, sym, ap, ◌∙◌}
use mathlib.Core.Bool.{Bool, true, false, cond, not, ◌&&◌}
use mathlib.Core.List.{List, [], ◌∷◌}
use Prim.Native.Nat.{ℕ, zero, suc, ◌+◌, ◌-◌, ◌≤◌, ◌<◌}
use native.Mathlib.Numerals.{add-one}
use native.Mathlib.Decide.{dec_lt}
use native.Mathlib.Omega.{arith}
use borrow.Author.Tests.{eq-eqb, ne_eqb, le-leb, lt-leb, ltb-true, ltb-false}
use Rattle.std.proofs.lemmas.Option.{none-some}
use lib.Dec.{eqb, ltb}
use lib.IntN.{ℤ, pos, negsuc}
use lib.ListN.{length, get_or, take, drop, length-drop, drop_of_length-le}
use lib.Seq.{drop-cons, drop-drop}
use Rattle.integers.specs.Equality.{true_eq_z, false_eq_z}
use Rattle.octets.specs.Octets.{signed, signed_at}
use Rattle.dvi.specs.Postamble.{Part, at_id, before_name, in_name, definitions, all223, trailer, postamble}
use Rattle.dvi_step.specs.Postamble.{FoundIn}
use Rattle.std.specs.Prelude.{Option, Some, None}
use Rattle.std.specs.List.{position_or_len, list_all}

first : (s : List ℕ) (j : ℕ) → j < length s → drop j s ≡ get_or s j 0 ∷ drop (j + 1) s
first s j h = rw (add-one, drop-cons s j 0)

pub drop_to : (s : List ℕ) (m n k : ℕ) → n + m ≡ k → drop m (drop n s) ≡ drop k s
drop_to s m n k e = drop-drop m n s ∙ ap (λ (i : ℕ). drop i s) e

-- ---- font definitions

ended : (pst : ℕ) (p : Part) → definitions pst p [] ≡ false
unfolding definitions
ended pst at_id = refl
ended pst (before_name n) = refl
ended pst (in_name q) = refl

before_name_lem : (pst n : ℕ) (bs : List ℕ) → definitions pst (before_name n) bs ≡ definitions pst (before_name 0) (drop n bs)
unfolding definitions
before_name_lem pst zero bs = refl
before_name_lem pst (suc n) [] = refl
before_name_lem pst (suc n) (b ∷ bs) = before_name_lem pst n bs

-- the first q, counted from the start of some bytes, or their number
abbrev pub name_length : ℕ → List ℕ → ℕ
name_length q bs = position_or_len (λ (b : ℕ). eqb b q) bs

-- a name, by whether its end is there
pub name_there : (pst q : ℕ) (bs : List ℕ) → name_length q bs < length bs → definitions pst (in_name q) bs ≡ definitions pst at_id (drop (name_length q bs + 1) bs)
unfolding definitions
name_there pst q [] h = absurd (omega arith)
name_there pst q (b ∷ bs) h = step (name_length q bs) (eqb b q) (name_there pst q bs) h
  where
    step : (n : ℕ) (t : Bool) → (n < length bs → definitions pst (in_name q) bs ≡ definitions pst at_id (drop (n + 1) bs)) → cond (not t) (1 + n) 0 < suc (length bs)
        → cond t (definitions pst at_id bs) (definitions pst (in_name q) bs) ≡ definitions pst at_id (drop (cond (not t) (1 + n) 0 + 1) (b ∷ bs))
    step n true f g = refl
    step n false f g = let e : 1 + n + 1 ≡ suc (n + 1) = omega arith in f (omega arith) ∙ ap (λ (k : ℕ). definitions pst at_id (drop k (b ∷ bs))) (sym e)

pub name_missing : (pst q : ℕ) (bs : List ℕ) → length bs ≤ name_length q bs → definitions pst (in_name q) bs ≡ false
unfolding definitions
name_missing pst q [] h = refl
name_missing pst q (b ∷ bs) h = step (name_length q bs) (eqb b q) (name_missing pst q bs) h
  where
    step : (n : ℕ) (t : Bool) → (length bs ≤ n → definitions pst (in_name q) bs ≡ false) → suc (length bs) ≤ cond (not t) (1 + n) 0
        → cond t (definitions pst at_id bs) (definitions pst (in_name q) bs) ≡ false
    step n true f g = absurd (omega arith)
    step n false f g = f (omega arith)

-- what `position` gives of a name
pub position_there : (k n m : ℕ) → cond (ltb n m) (Some n) None ≡ Some k → (n < m) × (k ≡ n)
position_there k n m e = go (ltb n m) (λ h. ltb-true n m h) e
  where
    go : (t : Bool) → (t ≡ true → n < m) → cond t (Some n) None ≡ Some k → (n < m) × (k ≡ n)
    go true f e = (f refl, cc)
    go false f e = absurd (none-some k e)

pub none_of : (r : Option ℕ) → ((n : ℕ) → r ≡ Some n → ⊥) → r ≡ None
none_of (Some n) f = absurd (f n refl)
none_of None f = refl

pub position_missing : (n m : ℕ) → cond (ltb n m) (Some n) None ≡ None → m ≤ n
position_missing n m e = go (ltb n m) (λ h. ltb-false n m h) e
  where
    go : (t : Bool) → (t ≡ false → m ≤ n) → cond t (Some n) None ≡ None → m ≤ n
    go true f e = absurd (none-some n (sym e))
    go false f e = f refl

-- bytes 223 alone, as the library has it
pub all223_is : (bs : List ℕ) → list_all (λ (b : ℕ). eqb b 223) bs ≡ all223 bs
unfolding all223
all223_is [] = refl
all223_is (b ∷ bs) = ap (λ (t : Bool). eqb b 223 && t) (all223_is bs)

part_none : (s : List ℕ) (j pst : ℕ) (p : Part) → length s ≤ j → definitions pst p (drop j s) ≡ false
part_none s j pst p h = rw (drop_of_length-le s h) (ended pst p)

-- at a font ID, before the bytes b ∷ bs
module _ (pst b : ℕ) (bs : List ℕ) where
  id_short : length bs < 3 → definitions pst at_id (b ∷ bs) ≡ false
  unfolding definitions
  id_short h = rw (lt-leb 3 (length bs) h)

  id_end : 3 ≤ length bs → signed (take 4 (b ∷ bs)) ≡ negsuc 0 → definitions pst at_id (b ∷ bs) ≡ trailer pst (drop 3 bs)
  unfolding definitions
  id_end h e = rw (le-leb 3 (length bs) h, true_eq_z (signed (take 4 (b ∷ bs))) (negsuc 0) e)

  id_more : 3 ≤ length bs → (signed (take 4 (b ∷ bs)) ≡ negsuc 0 → ⊥) → definitions pst at_id (b ∷ bs) ≡ definitions pst (before_name 7) bs
  unfolding definitions
  id_more h e = rw (le-leb 3 (length bs) h, false_eq_z (signed (take 4 (b ∷ bs))) (negsuc 0) e)

module _ (s : List ℕ) (j pst : ℕ) where
  pub ids_short : length s - j < 4 → definitions pst at_id (drop j s) ≡ false
  ids_short h = by (dec_lt j (length s))
    where
      by : Dec (j < length s) → definitions pst at_id (drop j s) ≡ false
      by (yes g) = ap (definitions pst at_id) (first s j g) ∙ id_short pst (get_or s j 0) (drop (j + 1) s) (omega (arith, length-drop (j + 1) s))
      by (no g) = part_none s j pst at_id (omega arith)

  pub ids_end : j + 4 ≤ length s → signed_at 4 j s ≡ negsuc 0 → definitions pst at_id (drop j s) ≡ trailer pst (drop (j + 4) s)
  ids_end h e =
      let f = first s j (omega arith) in
      ap (definitions pst at_id) f
      ∙ id_end pst (get_or s j 0) (drop (j + 1) s) (omega (arith, length-drop (j + 1) s)) (ap (λ (l : List ℕ). signed (take 4 l)) (sym f) ∙ e)
      ∙ ap (trailer pst) (drop_to s 3 (j + 1) (j + 4) (omega arith))

  pub ids_more : j + 4 ≤ length s → (signed_at 4 j s ≡ negsuc 0 → ⊥) → definitions pst at_id (drop j s) ≡ definitions pst (before_name 7) (drop (j + 1) s)
  ids_more h e =
      let f = first s j (omega arith) in
      ap (definitions pst at_id) f
      ∙ id_more pst (get_or s j 0) (drop (j + 1) s) (omega (arith, length-drop (j + 1) s)) (λ d. e (ap (λ (l : List ℕ). signed (take 4 l)) f ∙ d))

  at_quote : definitions pst (before_name 7) (drop (j + 1) s) ≡ definitions pst (before_name 0) (drop (j + 8) s)
  at_quote = before_name_lem pst 7 (drop (j + 1) s) ∙ ap (definitions pst (before_name 0)) (drop_to s 7 (j + 1) (j + 8) (omega arith))

  pub quote_short : length s - j < 9 → definitions pst (before_name 7) (drop (j + 1) s) ≡ false
  quote_short h = at_quote ∙ part_none s (j + 8) pst (before_name 0) (omega arith)

  pub quote_past : j + 9 ≤ length s → definitions pst (before_name 7) (drop (j + 1) s) ≡ definitions pst (in_name (get_or s (j + 8) 0)) (drop (j + 9) s)
  unfolding definitions
  quote_past h =
      let e : j + 8 + 1 ≡ j + 9 = omega arith in
      at_quote
      ∙ ap (definitions pst (before_name 0)) (first s (j + 8) (omega arith))
      ∙ ap (λ (k : ℕ). definitions pst (in_name (get_or s (j + 8) 0)) (drop k s)) e

-- further back is still before
pub within_more : (i n : ℕ) (r : Option ℕ) → FoundIn (i + 9) r n → FoundIn i r n
within_more i n (Some j) h = (omega arith, h.1)
within_more i n None h = tt

-- ---- the trailer and the whole, by the outcomes of the code's tests

module _ (pst : ℕ) (bs : List ℕ) where
  pub trailer_short : length bs < 9 → false ≡ trailer pst bs
  unfolding trailer
  trailer_short h = rw (lt-leb 9 (length bs) h)

  module _ (h : 9 ≤ length bs) where
    pub trailer_off : (signed (take 4 bs) ≡ pos pst → ⊥) → false ≡ trailer pst bs
    unfolding trailer
    trailer_off e = rw (le-leb 9 (length bs) h, false_eq_z (signed (take 4 bs)) (pos pst) e)

    pub trailer_byte : signed (take 4 bs) ≡ pos pst → (get_or bs 4 0 ≡ 0 → ⊥) → false ≡ trailer pst bs
    unfolding trailer
    trailer_byte e f = rw (le-leb 9 (length bs) h, true_eq_z (signed (take 4 bs)) (pos pst) e, ne_eqb (get_or bs 4 0) 0 f)

    pub trailer_fill : signed (take 4 bs) ≡ pos pst → get_or bs 4 0 ≡ 0 → all223 (drop 5 bs) ≡ trailer pst bs
    unfolding trailer
    trailer_fill e f = rw (le-leb 9 (length bs) h, true_eq_z (signed (take 4 bs)) (pos pst) e, eq-eqb (get_or bs 4 0) 0 f)

module _ (last : ℤ) (pst : ℕ) (bs : List ℕ) where
  pub postamble_short : length bs < 12 → false ≡ postamble last pst bs
  unfolding postamble
  postamble_short h = rw (lt-leb 12 (length bs) h)

  pub postamble_off : 12 ≤ length bs → (signed (take 4 bs) ≡ last → ⊥) → false ≡ postamble last pst bs
  unfolding postamble
  postamble_off h e = rw (le-leb 12 (length bs) h, false_eq_z (signed (take 4 bs)) last e)

  pub postamble_on : 12 ≤ length bs → signed (take 4 bs) ≡ last → definitions pst at_id (drop 12 bs) ≡ postamble last pst bs
  unfolding postamble
  postamble_on h e = rw (le-leb 12 (length bs) h, true_eq_z (signed (take 4 bs)) last e)
