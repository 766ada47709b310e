-- Reading what was written gives the number, and writing what was read gives the bytes, for every number of bytes at once.
-- Assumes nothing.
use Rattle.std.specs.Prelude.{◌≡◌, refl, Bool, true, false, cond, List, [], ◌∷◌, ◌++◌, ℕ, zero, suc, ◌+◌, ◌*◌, ◌-◌, ◌/◌, ◌%◌, ◌^◌, ◌≤◌, ◌<◌, ltb, ℤ, pos, negsuc, length, get_or, take, drop}
use Rattle.std.proofs.Common.{sym, ap, ◌∙◌, pow-suc, mod-lt, mod-eq_of_lt, div-one, add-mul, arith, lt-ltb, le-ltb, ltb-true, ltb-false, lit<, length-drop, length-take-le, get_or-drop, take-suc, take_at}
use Rattle.std.proofs.Math.Nat.{pow-succ', one-le-pow, div-div-eq-div-mul}
use Rattle.std.proofs.Math.Arith.{mod-mul, digits_mod}
use Rattle.std.specs.Int.Signed.{mag}
use Rattle.octets.specs.Octets.{Bytes, number_from, number, twos, signed, nat_at, signed_at, bytes, residue, signed_bytes, Holds}

-- ---- lists of bytes

pub bytes_drop : (k : ℕ) (s : List ℕ) → Bytes s → Bytes (drop k s)
bytes_drop k s b i = rw (get_or-drop k s i 0) (b (k + i))

-- ---- the number in some bytes

pub number_more : (a : ℕ) (bs : List ℕ) (b : ℕ) → number_from a (bs ++ (b ∷ [])) ≡ number_from a bs * 256 + b
unfolding number_from
number_more a [] b = refl
number_more a (x ∷ bs) b = number_more (a * 256 + x) bs b

pub nat_at_none : (at : ℕ) (s : List ℕ) → nat_at 0 at s ≡ 0
unfolding number_from
nat_at_none at s = refl

-- one byte more
pub nat_at_more : (k at : ℕ) (s : List ℕ) → at + k < length s → nat_at (suc k) at s ≡ nat_at k at s * 256 + get_or s (at + k) 0
nat_at_more k at s h =
    let l : k < length (drop at s) = omega (arith, length-drop at s) in
    ap number (take-suc (drop at s) k 0 l)
    ∙ number_more 0 (take k (drop at s)) (get_or (drop at s) k 0)
    ∙ ap (λ (b : ℕ). nat_at k at s * 256 + b) (get_or-drop at s k 0)

pub nat_at_below : (k at : ℕ) (s : List ℕ) → Bytes s → at + k ≤ length s → nat_at k at s < 256 ^ k
nat_at_below zero at s b h = omega (arith, nat_at_none at s)
nat_at_below (suc k) at s b h =
    let e = nat_at_more k at s (omega arith) in
    omega (arith, nat_at_below k at s b (omega arith), b (at + k), pow-suc 256 k)

pub length_nat_at : (k at : ℕ) (s : List ℕ) → at + k ≤ length s → length (take k (drop at s)) ≡ k
length_nat_at k at s h = length-take-le k (drop at s) (omega (arith, length-drop at s))

pub signed_at_twos : (k at : ℕ) (s : List ℕ) → at + k ≤ length s → signed_at k at s ≡ twos (256 ^ k) (nat_at k at s)
unfolding signed
signed_at_twos k at s h = ap (λ (j : ℕ). twos (256 ^ j) (nat_at k at s)) (length_nat_at k at s h)

-- ---- the bytes of a number

pub length_bytes : (k n : ℕ) → length (bytes k n) ≡ k
unfolding bytes
length_bytes zero n = refl
length_bytes (suc k) n = ap suc (length_bytes k n)

pub length_signed_bytes : (k : ℕ) (z : ℤ) → length (signed_bytes k z) ≡ k
unfolding signed_bytes
length_signed_bytes k z = length_bytes k (residue (256 ^ k) z)

-- the last byte, after those of the quotient
pub bytes_last : (k n : ℕ) → bytes (suc k) n ≡ bytes k (n / 256) ++ (n % 256 ∷ [])
unfolding bytes
bytes_last zero n = ap (λ (m : ℕ). m % 256 ∷ []) (div-one n)
bytes_last (suc k) n =
    let q : n / 256 ^ suc k ≡ n / 256 / 256 ^ k = ap (λ (m : ℕ). n / m) (pow-succ' 256 k) ∙ sym (div-div-eq-div-mul n 256 (256 ^ k)) in
    (λ i. q i % 256 ∷ bytes_last k n i)

power_positive : (k : ℕ) → 0 < 256 ^ k
power_positive k = one-le-pow k 256 (lit< tt)

mod_power : (k n : ℕ) → n % 256 ^ suc k ≡ n / 256 % 256 ^ k * 256 + n % 256
mod_power k n = ap (λ (x : ℕ). n % x) (pow-suc 256 k) ∙ mod-mul n (power_positive k) (lit< tt)

-- the number in the k bytes of n is n, but for what lies above them
pub number_bytes : (k n : ℕ) → number (bytes k n) ≡ n % 256 ^ k
unfolding number_from bytes
number_bytes zero n = omega arith
number_bytes (suc k) n =
    ap number (bytes_last k n)
    ∙ number_more 0 (bytes k (n / 256)) (n % 256)
    ∙ ap (λ (m : ℕ). m * 256 + n % 256) (number_bytes k (n / 256))
    ∙ sym (mod_power k n)

-- what lies above them does not count
pub bytes_mod : (k n : ℕ) → bytes k (n % 256 ^ k) ≡ bytes k n
unfolding bytes
bytes_mod zero n = refl
bytes_mod (suc k) n =
    let m = mod_power k n in
    let q : n % 256 ^ suc k / 256 ≡ n / 256 % 256 ^ k = omega arith in
    let d : n % 256 ^ suc k % 256 ≡ n % 256 = omega arith in
    bytes_last k (n % 256 ^ suc k)
    ∙ (λ i. bytes k (q i) ++ (d i ∷ []))
    ∙ ap (λ (l : List ℕ). l ++ (n % 256 ∷ [])) (bytes_mod k (n / 256))
    ∙ sym (bytes_last k n)

-- writing what was read gives the bytes
pub bytes_nat_at : (k at : ℕ) (s : List ℕ) → Bytes s → at + k ≤ length s → bytes k (nat_at k at s) ≡ take k (drop at s)
unfolding bytes
bytes_nat_at zero at s b h = refl
bytes_nat_at (suc k) at s b h =
    let n = nat_at k at s in
    let x = get_or s (at + k) 0 in
    let q : (n * 256 + x) / 256 ≡ n = omega (arith, b (at + k)) in
    let r : (n * 256 + x) % 256 ≡ x = omega (arith, b (at + k)) in
    let l : k < length (drop at s) = omega (arith, length-drop at s) in
    ap (bytes (suc k)) (nat_at_more k at s (omega arith))
    ∙ bytes_last k (n * 256 + x)
    ∙ (λ i. bytes k (q i) ++ (r i ∷ []))
    ∙ ap (λ (m : ℕ). bytes k n ++ (m ∷ [])) (sym (get_or-drop at s k 0))
    ∙ ap (λ (t : List ℕ). t ++ (get_or (drop at s) k 0 ∷ [])) (bytes_nat_at k at s b (omega arith))
    ∙ sym (take-suc (drop at s) k 0 l)

-- ---- two's complement

pub twos_low : (m v : ℕ) → v + v < m → twos m v ≡ pos v
unfolding twos
twos_low m v h = rw (lt-ltb (v + v) m h)

pub twos_high : (m v : ℕ) → m ≤ v + v → twos m v ≡ negsuc (m - suc v)
unfolding twos
twos_high m v h = rw (le-ltb (v + v) m h)

-- a test and its outcome, as a fact
pub by_test : {X : Type 0} (a b : ℕ) → (a < b → X) → (b ≤ a → X) → X
by_test {X} a b f g = go (ltb a b) refl
  where
    go : (t : Bool) → ltb a b ≡ t → X
    go true e = f (ltb-true a b e)
    go false e = g (ltb-false a b e)

-- what holds of both sides of a choice holds of the choice
pub by_cond {ℓ} : {A : Type 0} (P : A → Type ℓ) (t : Bool) (x y : A) → (t ≡ true → P x) → (t ≡ false → P y) → P (cond t x y)
by_cond P true x y f g = f refl
by_cond P false x y f g = g refl

pub twos_residue : (m : ℕ) (z : ℤ) → 2 * suc (mag z) ≤ m → twos m (residue m z) ≡ z
unfolding residue
twos_residue m (pos n) h = ap (twos m) (mod-eq_of_lt (omega arith)) ∙ twos_low m n (omega arith)
twos_residue m (negsuc n) h =
    ap (λ (v : ℕ). twos m (m - suc v)) (mod-eq_of_lt (omega arith))
    ∙ twos_high m (m - suc n) (omega arith)
    ∙ ap negsuc (omega arith)

pub residue_twos : (m v : ℕ) → v < m → residue m (twos m v) ≡ v
unfolding residue
residue_twos m v h =
    by_test (v + v) m
    (λ l. ap (residue m) (twos_low m v l) ∙ mod-eq_of_lt h)
    (λ l.
    let e : (m - suc v) % m ≡ m - suc v = mod-eq_of_lt (omega arith) in
    ap (residue m) (twos_high m v l) ∙ ap (λ (x : ℕ). m - suc x) e ∙ (omega arith))

-- reading what was written gives the number
pub signed_signed_bytes : (k : ℕ) (z : ℤ) → Holds k z → signed (signed_bytes k z) ≡ z
unfolding signed signed_bytes residue
signed_signed_bytes k z f =
    let m = 256 ^ k in
    ap (λ (j : ℕ). twos (256 ^ j) (number (bytes k (residue m z)))) (length_bytes k (residue m z))
    ∙ ap (twos m) (number_bytes k (residue m z) ∙ mod-eq_of_lt (residue_below m z (power_positive k)))
    ∙ twos_residue m z f.half
  where
    residue_below : (m : ℕ) (z : ℤ) → 0 < m → residue m z < m
    residue_below m (pos n) h = mod-lt n h
    residue_below m (negsuc n) h = omega (arith, mod-lt n h)

-- the same of bytes that stand first
pub signed_first : (k : ℕ) (z : ℤ) (rest : List ℕ) → Holds k z → signed (take k (signed_bytes k z ++ rest)) ≡ z
signed_first k z rest f = ap signed (take_at (signed_bytes k z) rest k (length_signed_bytes k z)) ∙ signed_signed_bytes k z f

-- writing what was read gives the bytes
pub signed_bytes_signed_at : (k at : ℕ) (s : List ℕ) → Bytes s → at + k ≤ length s → signed_bytes k (signed_at k at s) ≡ take k (drop at s)
unfolding signed_bytes
signed_bytes_signed_at k at s b h =
    ap (λ (z : ℤ). bytes k (residue (256 ^ k) z)) (signed_at_twos k at s h)
    ∙ ap (bytes k) (residue_twos (256 ^ k) (nat_at k at s) (nat_at_below k at s b h))
    ∙ bytes_nat_at k at s b h

-- the same for a number that is not negative, read and written as such
pub number_signed_bytes : (k n : ℕ) → n < 256 ^ k → number (signed_bytes k (pos n)) ≡ n
unfolding signed_bytes residue
number_signed_bytes k n h = ap number (bytes_mod k n) ∙ number_bytes k n ∙ mod-eq_of_lt h

pub signed_bytes_pos : (k n : ℕ) → signed_bytes k (pos n) ≡ bytes k n
unfolding signed_bytes residue
signed_bytes_pos k n = bytes_mod k n

pub signed_bytes_nat_at : (k at : ℕ) (s : List ℕ) → Bytes s → at + k ≤ length s → signed_bytes k (pos (nat_at k at s)) ≡ take k (drop at s)
unfolding signed_bytes residue
signed_bytes_nat_at k at s b h = bytes_mod k (nat_at k at s) ∙ bytes_nat_at k at s b h

-- a residue of a residue, where the first modulus is a multiple of the second
residue_mod : (q m : ℕ) (z : ℤ) → 0 < q → 0 < m → residue (q * m) z % m ≡ residue m z
unfolding residue
residue_mod q m (pos n) hq hm = ap (λ (x : ℕ). x % m) (mod-mul n hq hm) ∙ digits_mod (n / m % q) (mod-lt n hm)
residue_mod q m (negsuc n) hq hm =
    let a = n / m % q in
    let r = n % m in
    let ha : a < q = mod-lt (n / m) hq in
    let hr : r < m = mod-lt n hm in
    let d = q - suc a in
    let split : q * m ≡ (a + suc d) * m = ap (λ (x : ℕ). x * m) (omega arith) in
    let e : q * m - suc (n % (q * m)) ≡ d * m + (m - suc r) = omega (arith, mod-mul n hq hm, split, add-mul a (suc d) m) in
    ap (λ (x : ℕ). x % m) e ∙ digits_mod d (omega arith)

-- the last k bytes of z's 32 bits are z in k bytes
pub word_bytes : (k : ℕ) (z : ℤ) → k ≤ 4 → bytes k (residue 4294967296 z) ≡ signed_bytes k z
unfolding signed_bytes
word_bytes k z h =
    let w = whole k h in
    ap (λ (m : ℕ). bytes k (residue m z)) w.1
    ∙ sym (bytes_mod k (residue (suc w.0 * 256 ^ k) z))
    ∙ ap (bytes k) (residue_mod (suc w.0) (256 ^ k) z (omega arith) (power_positive k))
  where
    whole : (k : ℕ) → k ≤ 4 → (q : ℕ) × (4294967296 ≡ suc q * 256 ^ k)
    whole zero h = (4294967295, refl)
    whole (suc zero) h = (16777215, refl)
    whole (suc (suc zero)) h = (65535, refl)
    whole (suc (suc (suc zero))) h = (255, refl)
    whole (suc (suc (suc (suc zero)))) h = (0, refl)
    whole (suc (suc (suc (suc (suc k))))) h = absurd (omega arith)
