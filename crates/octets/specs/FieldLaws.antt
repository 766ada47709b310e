-- A list starts with a field exactly where it is that field and what follows.
-- Assumes nothing.
use Rattle.std.specs.Prelude.{◌≡◌, refl, Bool, true, false, ◌&&◌, List, ◌∷◌, ◌++◌, ℕ, ◌+◌, ◌^◌, ◌≤◌, ◌<◌, length, get_or, take, drop}
use Rattle.std.proofs.Common.{sym, ap, ◌∙◌, append_assoc, mod-eq_of_lt, suc-ne-zero, arith, le-leb, leb-true, eq-eqb, eqb-true, take-append-drop, length-append, take_at, drop-cons, drop-drop}
use Rattle.octets.specs.Octets.{Bytes, number, nat_at, bytes}
use Rattle.octets.specs.OctetsLaws.{length_bytes, number_bytes, bytes_nat_at, length_nat_at}
use Rattle.octets.specs.Field.{field, end_field, starts_field, starts_end}

-- both sides of a test of two
pub both : (t u : Bool) → (t && u) ≡ true → (t ≡ true) × (u ≡ true)
both true u e = (refl, e)
both false u e = absurd (suc-ne-zero 0 cc)

pub length_field : (tag : ℕ) (body : List ℕ) → length (field tag body) ≡ 3 + length body
unfolding field bytes
length_field tag body = omega arith

-- the number in k bytes that stand first
number_first : (k n : ℕ) (rest : List ℕ) → n < 256 ^ k → number (take k (bytes k n ++ rest)) ≡ n
number_first k n rest h = ap number (take_at (bytes k n) rest k (length_bytes k n)) ∙ number_bytes k n ∙ mod-eq_of_lt h

pub field_starts : (tag : ℕ) (body rest : List ℕ) (len : ℕ) → length body ≡ len → len < 65536 → starts_field tag len (field tag body ++ rest) ≡ true
unfolding field starts_field
field_starts tag body rest len e h =
    let l : 3 + len ≤ length (field tag body ++ rest) = omega (arith, length-append (field tag body) rest, length_field tag body) in
    let n : nat_at 2 1 (field tag body ++ rest) ≡ len = ap (λ (s : List ℕ). number (take 2 s)) (append_assoc (bytes 2 (length body)) body rest) ∙ number_first 2 (length body) (body ++ rest) (omega arith) ∙ e in
    simp (le-leb _ _ l, eq-eqb _ _ n, eq-eqb tag tag refl)

pub record Starts (tag len : ℕ) (s : List ℕ) : Type 0 where
  pub long : 3 + len ≤ length s
  pub tag_is : get_or s 0 0 ≡ tag
  pub length_is : nat_at 2 1 s ≡ len

pub starts : {tag len : ℕ} {s : List ℕ} → starts_field tag len s ≡ true → Starts tag len s
unfolding starts_field
starts {tag} {len} {s} e =
    let a = both _ _ e in
    let b = both _ _ a.0 in
    record { long = leb-true _ _ b.0; tag_is = eqb-true _ _ b.1; length_is = eqb-true _ _ a.1 }

-- bytes that start with a field are that field and what follows
pub starts_field_lem : (tag len : ℕ) (s : List ℕ) → Bytes s → starts_field tag len s ≡ true → s ≡ field tag (take len (drop 3 s)) ++ drop (3 + len) s
unfolding field
starts_field_lem tag len s b e =
    let f = starts e in
    let l = f.long in
    let body = take len (drop 3 s) in
    let n : nat_at 2 1 s ≡ length body = f.length_is ∙ sym (length_nat_at len 3 s l) in
    let rest : drop 3 s ≡ body ++ drop (3 + len) s = sym (take-append-drop len (drop 3 s)) ∙ ap (λ (t : List ℕ). body ++ t) (drop-drop len 3 s) in
    let two : drop 1 s ≡ bytes 2 (length body) ++ drop 3 s =
    sym (take-append-drop 2 (drop 1 s))
    ∙ (λ i. sym (bytes_nat_at 2 1 s b (omega arith)) i ++ drop-drop 2 1 s i)
    ∙ ap (λ (k : ℕ). bytes 2 k ++ drop 3 s) n in
    drop-cons s 0 0 (omega arith)
    ∙ (λ i. f.tag_is i ∷ two i)
    ∙ ap (λ (t : List ℕ). tag ∷ bytes 2 (length body) ++ t) rest
    ∙ ap (λ (t : List ℕ). tag ∷ t) (sym (append_assoc (bytes 2 (length body)) body (drop (3 + len) s)))

-- ---- End

pub length_end : (n : ℕ) → length (end_field n) ≡ 7
unfolding end_field bytes
length_end n = length_field 2 (bytes 4 n)

pub end_starts : (n : ℕ) (rest : List ℕ) → n < 4294967296 → starts_end n (end_field n ++ rest) ≡ true
unfolding end_field starts_end field bytes
end_starts n rest h =
    let c : nat_at 4 3 (end_field n ++ rest) ≡ n = number_first 4 n rest h in
    simp (field_starts 2 (bytes 4 n) rest 4 refl (omega arith), eq-eqb _ _ c)

-- bytes that start with an End are that End and what follows
pub starts_end_lem : (n : ℕ) (s : List ℕ) → Bytes s → starts_end n s ≡ true → (7 ≤ length s) × (s ≡ end_field n ++ drop 7 s)
unfolding end_field starts_end
starts_end_lem n s b e =
    let a = both _ _ e in
    let l = (starts a.0).long in
    let count : bytes 4 (nat_at 4 3 s) ≡ bytes 4 n = ap (bytes 4) (eqb-true _ _ a.1) in
    (omega arith, starts_field_lem 2 4 s b a.0 ∙ ap (λ (body : List ℕ). field 2 body ++ drop 7 s) (sym (bytes_nat_at 4 3 s b (omega arith)) ∙ count))
