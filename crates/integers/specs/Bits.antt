-- How the bits of a signed local read. It holds bits, so a need speaks of `to_z w (of_z w z)`. Take that away first:
--         rw (plain c.ranges.a, ..) t           a parameter; of a struct's field, `let f : SFits w32 c.args.self.0 = search rules in`
--         rw (plain fits-of-the-result, ..)         a sum that the function made; state that it fits once, as a lemma over the place's record
--         returned w32 c.f.type_inv c.f.ensures   a call's result. Do not rewrite by `c.f.ensures` itself: `c` depends on the result
--         plain_pos                                 an unsigned number cast to a signed type
--         widened, widened_sum, wide, sum_fits      `a as i64`, and `a as i64 + b as i64`; widened_dif, dif_fits with `-`
--         same_bits                                 a test `a == b`, which speaks of bits
--         rw (..) at c.if-a-b.true              the outcome of a test, in the numbers themselves; then list it for omega
-- Assumes nothing.
use Rattle.std.specs.Prelude.{◌≡◌, ℕ, ◌+◌, ◌-◌, ◌^◌, ◌<◌, ℤ, pos, ◌+ℤ◌, ◌-ℤ◌}
use Rattle.std.proofs.Common.{sym, ap, ◌∙◌, lit<, lt_trans}
use Rattle.std.specs.Int.Signed.{mag}
use Rattle.std.specs.Int.{Width, w32, w64}
use mir.Val.{SFits, hbits, to_z, of_z}
use Rattle.std.proofs.lemmas.Int.{to_z-of_z, to_z_pos}
use Rattle.integers.specs.Parts.{sum_parts, dif_parts, bounds, integers}

pub plain : {w : Width} {z : ℤ} → SFits w z → to_z w (of_z w z) ≡ z
plain {w} {z} f = to_z-of_z w z f

-- of a call's result: `returned w32 c.f.type_inv c.f.ensures`
pub returned : (w : Width) {z y : ℤ} → mag z < 2 ^ hbits w → z ≡ y → to_z w (of_z w z) ≡ y
returned w {z} {y} h e = to_z-of_z w z (record { sfits = h }) ∙ e

-- of an unsigned number that was cast to a signed type
pub plain_pos : {w : Width} {n : ℕ} → SFits w (pos n) → to_z w n ≡ pos n
plain_pos {w} {n} f = to_z_pos w n f.sfits

-- `==` compares bits, and the bits of two numbers are the same only if the numbers are
pub same_bits : {w : Width} {a b : ℤ} → SFits w a → SFits w b → of_z w a ≡ of_z w b → a ≡ b
same_bits {w} fa fb e = sym (plain fa) ∙ ap (to_z w) e ∙ plain fb

pub wide : {z : ℤ} → SFits w32 z → SFits w64 z
wide f = record { sfits = lt_trans f.sfits (lit< tt) }

-- an i32 widened, `a as i64`
pub widened : {a : ℤ} → SFits w32 a → to_z w64 (of_z w64 (to_z w32 (of_z w32 a))) ≡ a
widened fa = rw (plain fa) (plain (wide fa))

-- `a as i64 + b as i64` always fits, and is the sum
pub sum_fits : {a b : ℤ} → SFits w32 a → SFits w32 b → SFits w64 (a +ℤ b)
sum_fits {a} {b} fa fb = omega (integers, bounds fa, bounds fb, sum_parts a b)

pub widened_sum : {a b : ℤ} → SFits w32 a → SFits w32 b → to_z w64 (of_z w64 (to_z w64 (of_z w64 (to_z w32 (of_z w32 a))) +ℤ to_z w64 (of_z w64 (to_z w32 (of_z w32 b))))) ≡ a +ℤ b
widened_sum fa fb = rw (widened fa, widened fb) (plain (sum_fits fa fb))

-- the same of `a as i64 - b as i64`
pub dif_fits : {a b : ℤ} → SFits w32 a → SFits w32 b → SFits w64 (a -ℤ b)
dif_fits {a} {b} fa fb = omega (integers, bounds fa, bounds fb, dif_parts a b)

pub widened_dif : {a b : ℤ} → SFits w32 a → SFits w32 b → to_z w64 (of_z w64 (to_z w64 (of_z w64 (to_z w32 (of_z w32 a))) -ℤ to_z w64 (of_z w64 (to_z w32 (of_z w32 b))))) ≡ a -ℤ b
widened_dif fa fb = rw (widened fa, widened fb) (plain (dif_fits fa fb))
