-- Numbers in bytes (document 01, "All numbers have the high byte first"; "parameters are two's complement").
--     Bytes s            each number of the list s is a byte
--     number bs          the number that the bytes bs make
--     signed bs          the same in two's complement
--     nat_at k at s       the number in the k bytes of s from the place `at` on
--     signed_at k at s    the same in two's complement
--     bytes k n          the last k bytes of n
--     signed_bytes k z    z in k bytes, in two's complement
--     Holds k z          k bytes hold z in two's complement
--     width_of z          the fewest of 2, 3 and 4 bytes that hold z
--     fits32 z           z is a signed 32-bit number
use Rattle.std.specs.Prelude.{ℕ, zero, suc, ◌+◌, ◌*◌, ◌-◌, ◌/◌, ◌%◌, ◌^◌, ◌≤◌, ◌<◌, Bool, cond, ◌&&◌, List, [], ◌∷◌, ltb, ℤ, pos, negsuc, length, get_or, take, drop}
use Rattle.std.specs.Int.Signed.{mag, le_z}

abbrev pub Bytes : List ℕ → Type 0
Bytes s = (i : ℕ) → get_or s i 0 < 256

-- the number that the bytes make after bytes that made n
unfoldable pub number_from : ℕ → List ℕ → ℕ
number_from n [] = n
number_from n (b ∷ bs) = number_from (n * 256 + b) bs

abbrev pub number : List ℕ → ℕ
number bs = number_from 0 bs

-- v of 0 to m - 1 as a two's complement number: the upper half is negative
unfoldable pub twos : ℕ → ℕ → ℤ
twos m v = cond (ltb (v + v) m) (pos v) (negsuc (m - suc v))

unfoldable pub signed : List ℕ → ℤ
signed bs = twos (256 ^ length bs) (number bs)

abbrev pub nat_at : ℕ → ℕ → List ℕ → ℕ
nat_at k at s = number (take k (drop at s))

abbrev pub signed_at : ℕ → ℕ → List ℕ → ℤ
signed_at k at s = signed (take k (drop at s))

unfoldable pub bytes : ℕ → ℕ → List ℕ
bytes zero n = []
bytes (suc k) n = n / 256 ^ k % 256 ∷ bytes k n

-- z modulo m, 0 to m - 1
unfoldable pub residue : ℕ → ℤ → ℕ
residue m (pos n) = n % m
residue m (negsuc n) = m - suc (n % m)

unfoldable pub signed_bytes : ℕ → ℤ → List ℕ
signed_bytes k z = bytes k (residue (256 ^ k) z)

-- -half ≤ z < half
pub record Holds (k : ℕ) (z : ℤ) : Type 0 where
  pub half : 2 * suc (mag z) ≤ 256 ^ k

unfoldable pub width_of : ℤ → ℕ
width_of z = cond (ltb (mag z) 32768) 2 (cond (ltb (mag z) 8388608) 3 4)

unfoldable pub fits32 : ℤ → Bool
fits32 z = le_z (negsuc 2147483647) z && le_z z (pos 2147483647)
