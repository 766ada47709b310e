-- Numbers of 32 bits and their bytes, as the code computes them.
--     width_holds, width_least     so many bytes hold a number, and no fewer of 2, 3 and 4 do
--     nat_at_one, nat_at_two         bytes read one by one
--     nat_at_halves, bytes_halves   four bytes, two at a time
--     residue_negative, -natural   the 32 bits of a number
--     signed_at_shifted             sign extension: shifted to the top of 32 bits and back
-- Assumes nothing.
use Rattle.std.specs.Prelude.{◌≡◌, refl, true, List, ◌∷◌, ◌++◌, ℕ, suc, ◌+◌, ◌*◌, ◌-◌, ◌/◌, ◌%◌, ◌^◌, ◌≤◌, ◌<◌, ℤ, pos, negsuc, nat_abs, ◌-ℤ◌, length, get_or, ◌<ℤ◌, ◌≤ℤ◌}
use Rattle.std.proofs.Common.{sym, ap, ◌∙◌, add-zero, div-one, mod-eq_of_lt, arith, lt-ltb, le-ltb, lit<, SFits, to_z, of_z}
use Rattle.std.proofs.Math.Nat.{div-div-eq-div-mul, pow-le-pow_right}
use Rattle.std.specs.Int.Signed.{mag, le_z, shr_z, mag_shr}
use Rattle.std.specs.Int.{w32}
use Rattle.integers.specs.Parts.{integers, dif_parts, bounds}
use Rattle.integers.specs.Bits.{plain}
use Rattle.octets.specs.Octets.{twos, nat_at, signed_at, bytes, residue, Holds, width_of, fits32}
use Rattle.octets.specs.OctetsLaws.{nat_at_none, nat_at_more, signed_at_twos, twos_low, twos_high, by_test}

-- ---- the fewest bytes of 2, 3 and 4: they hold the number, and fewer do not

by_width : (P : ℕ → Type 0) (z : ℤ) → (mag z < 32768 → P 2) → (32768 ≤ mag z → mag z < 8388608 → P 3) → (8388608 ≤ mag z → P 4) → P (width_of z)
unfolding width_of
by_width P z a b c =
    by_test (mag z) 32768
    (λ h. rw (lt-ltb (mag z) 32768 h) (a h))
    (λ h.
    by_test (mag z) 8388608
    (λ l. rw (le-ltb (mag z) 32768 h, lt-ltb (mag z) 8388608 l) (b h l))
    (λ l. rw (le-ltb (mag z) 32768 h, le-ltb (mag z) 8388608 l) (c l)))

pub width_holds : (z : ℤ) → mag z < 2147483648 → Holds (width_of z) z
width_holds z f =
    by_width (λ (k : ℕ). Holds k z) z
    (λ h. record { half = omega arith })
    (λ l h. record { half = omega arith })
    (λ l. record { half = omega arith })

pub width_least : (k : ℕ) (z : ℤ) → 2 ≤ k → k < width_of z → Holds k z → ⊥
width_least k z h =
    by_width (λ (w : ℕ). k < w → Holds k z → ⊥) z
    (λ a l f. omega arith)
    (λ a b l f. omega (arith, f.half, pow-le-pow_right {n = 256} (lit< tt) {i = k} {j = 2} (omega arith)))
    (λ a l f. omega (arith, f.half, pow-le-pow_right {n = 256} (lit< tt) {i = k} {j = 3} (omega arith)))

pub width_range : (z : ℤ) → (2 ≤ width_of z) × (width_of z ≤ 4)
width_range z = by_width (λ (w : ℕ). (2 ≤ w) × (w ≤ 4)) z (λ h. omega arith) (λ l h. omega arith) (λ l. omega arith)

-- ---- signed 32-bit numbers: four bytes hold them

pub holds_four : {z : ℤ} → SFits w32 z → Holds 4 z
holds_four f = record { half = omega (arith, f.sfits) }

pub true_fits32 : (z : ℤ) → SFits w32 z → fits32 z ≡ true
unfolding fits32
true_fits32 z f =
    let low : le_z (negsuc 2147483647) z ≡ true = omega (integers, bounds f) in
    let high : le_z z (pos 2147483647) ≡ true = omega (integers, bounds f) in
    rw (low, high)

-- ---- as the code computes: one byte and two, and the 32 bits of a number

pub nat_at_one : (at : ℕ) (s : List ℕ) → at + 1 ≤ length s → nat_at 1 at s ≡ get_or s at 0
nat_at_one at s h =
    let first : get_or s (at + 0) 0 ≡ get_or s at 0 = ap (λ (i : ℕ). get_or s i 0) (add-zero at) in
    omega (arith, nat_at_more 0 at s (omega arith), nat_at_none at s, first)

pub nat_at_two : (at : ℕ) (s : List ℕ) → at + 2 ≤ length s → nat_at 2 at s ≡ get_or s at 0 * 256 + get_or s (at + 1) 0
nat_at_two at s h =
    nat_at_more 1 at s (omega arith) ∙ ap (λ (n : ℕ). n * 256 + get_or s (at + 1) 0) (nat_at_one at s (omega arith))

pub nat_at_halves : (at : ℕ) (s : List ℕ) → at + 4 ≤ length s → nat_at 4 at s ≡ nat_at 2 at s * 65536 + nat_at 2 (at + 2) s
nat_at_halves at s h =
    let last : get_or s (at + 2 + 1) 0 ≡ get_or s (at + 3) 0 = ap (λ (i : ℕ). get_or s i 0) (omega arith) in
    omega (arith, nat_at_more 3 at s (omega arith), nat_at_more 2 at s (omega arith), nat_at_two (at + 2) s (omega arith), last)

pub bytes_halves : (n : ℕ) → bytes 2 (n / 65536) ++ bytes 2 n ≡ bytes 4 n
unfolding bytes
bytes_halves n = (λ i. div-div-eq-div-mul n 65536 256 i % 256 ∷ div-one (n / 65536) i % 256 ∷ bytes 2 n)

pub residue_negative : (z : ℤ) → SFits w32 z → z <ℤ pos 0 → 4294967295 - mag z ≡ residue 4294967296 z
unfolding residue
residue_negative (pos n) f h = absurd (omega integers)
residue_negative (negsuc n) f h = let e : n % 4294967296 ≡ n = mod-eq_of_lt (omega (arith, f.sfits)) in rw e (omega arith)

pub residue_natural : (z : ℤ) → SFits w32 z → pos 0 ≤ℤ z → mag z ≡ residue 4294967296 z
unfolding residue
residue_natural (pos n) f h = sym (mod-eq_of_lt (omega (arith, f.sfits)))
residue_natural (negsuc n) f h = absurd h.le

-- the size of z by which its width goes, as the code computes it
pub mag_negative : (z : ℤ) → z <ℤ pos 0 → nat_abs (negsuc 0 -ℤ z) ≡ mag z
mag_negative (pos n) h = absurd (omega integers)
mag_negative (negsuc n) h = let d : negsuc 0 -ℤ negsuc n ≡ pos n = omega (integers, dif_parts (negsuc 0) (negsuc n)) in ap nat_abs d

pub mag_natural : (z : ℤ) → pos 0 ≤ℤ z → nat_abs z ≡ mag z
mag_natural (pos n) h = refl
mag_natural (negsuc n) h = absurd h.le

-- sign extension: v below m, shifted to the top of 32 bits and back. What it takes of the numbers m and k, the caller computes.
pub shifted : (m k v : ℕ) → (v + v < m → (v * k + v * k < 4294967296) × (v * k / k ≡ v))
    → (m ≤ v + v → (4294967296 ≤ v * k + v * k) × ((4294967296 - suc (v * k)) / k ≡ m - suc v)) → shr_z (twos 4294967296 (v * k)) k ≡ twos m v
shifted m k v low high =
    by_test (v + v) m
    (λ h. ap (λ (z : ℤ). shr_z z k) (twos_low 4294967296 (v * k) (low h).0) ∙ ap pos (low h).1 ∙ sym (twos_low m v h))
    (λ h. ap (λ (z : ℤ). shr_z z k) (twos_high 4294967296 (v * k) (high h).0) ∙ ap negsuc (high h).1 ∙ sym (twos_high m v h))

-- a shift to the right stays in 32 bits
pub shift_right : (r z : ℤ) (k : ℕ) → mag r < 2147483648 → shr_z r k ≡ z → to_z w32 (of_z w32 (shr_z (to_z w32 (of_z w32 r)) k)) ≡ z
shift_right r z k ok e =
    let f : SFits w32 r = record { sfits = ok } in
    let g : SFits w32 (shr_z r k) = record { sfits = omega (arith, mag_shr r k) } in
    ap (λ (y : ℤ). to_z w32 (of_z w32 (shr_z y k))) (plain f) ∙ plain g ∙ e

-- the number n in k bytes, shifted to the top of 32 bits and back by t
pub signed_at_shifted : (k t at : ℕ) (s : List ℕ) (n : ℕ) (r : ℤ) → at + k ≤ length s → n ≡ nat_at k at s → mag r < 2147483648 → r ≡ twos 4294967296 (n * t)
    → (n + n < 256 ^ k → (n * t + n * t < 4294967296) × (n * t / t ≡ n))
    → (256 ^ k ≤ n + n → (4294967296 ≤ n * t + n * t) × ((4294967296 - suc (n * t)) / t ≡ 256 ^ k - suc n))
    → to_z w32 (of_z w32 (shr_z (to_z w32 (of_z w32 r)) t)) ≡ signed_at k at s
signed_at_shifted k t at s n r h e ok v low high =
    shift_right r (twos (256 ^ k) n) t ok (ap (λ (z : ℤ). shr_z z t) v ∙ shifted (256 ^ k) t n low high)
    ∙ ap (twos (256 ^ k)) e
    ∙ sym (signed_at_twos k at s h)
