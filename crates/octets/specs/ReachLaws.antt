-- What `sum` and `difference` answer, by whether the number stays in signed 32 bits.
-- Assumes nothing.
use Rattle.std.specs.Prelude.{◌≡◌, refl, Bool, true, false, ℤ, ◌+ℤ◌, ◌-ℤ◌, Option, Some, None}
use Rattle.std.proofs.Common.{sym, ◌∙◌, suc-ne-zero, SFits, to_z, of_z}
use Rattle.std.proofs.Math.Path.{ap}
use Rattle.std.specs.Int.{w32}
use Rattle.integers.specs.Bits.{plain}
use Rattle.octets.specs.Octets.{fits32}
use Rattle.octets.specs.Reach.{reach_if, reach}

to_is : (b : Bool) (z v : ℤ) → reach_if b z ≡ Some v → (b ≡ true) × (v ≡ z)
to_is true z v e = (refl, (cc))
to_is false z v e = absurd (suc-ne-zero 0 cc)

off_is : (b : Bool) (z : ℤ) → reach_if b z ≡ None → b ≡ false
off_is true z e = absurd (suc-ne-zero 0 cc)
off_is false z e = refl

-- what is answered of the number z, which the code has as y
module _ (z : ℤ) {y : ℤ} {r : Option ℤ} (e : r ≡ reach y) (q : y ≡ z) where
  pub reach_to : {v : ℤ} → r ≡ Some v → (fits32 z ≡ true) × (v ≡ z)
  unfolding reach
  reach_to {v} t = to_is (fits32 z) z v (sym (e ∙ ap reach q) ∙ t)

  pub reach_off : r ≡ None → fits32 z ≡ false
  unfolding reach
  reach_off t = off_is (fits32 z) z (sym (e ∙ ap reach q) ∙ t)

module _ (a b : ℤ) (p : SFits w32 a) (q : SFits w32 b) where
  plain_sum : to_z w32 (of_z w32 a) +ℤ to_z w32 (of_z w32 b) ≡ a +ℤ b
  plain_sum = λ i. plain p i +ℤ plain q i

  plain_dif : to_z w32 (of_z w32 a) -ℤ to_z w32 (of_z w32 b) ≡ a -ℤ b
  plain_dif = λ i. plain p i -ℤ plain q i

-- what `sum` answers on the numbers a and b
module _ (a b : ℤ) {r : Option ℤ} (e : r ≡ reach (to_z w32 (of_z w32 a) +ℤ to_z w32 (of_z w32 b))) (p : SFits w32 a) (q : SFits w32 b) where
  pub sum_to : {v : ℤ} → r ≡ Some v → (fits32 (a +ℤ b) ≡ true) × (v ≡ a +ℤ b)
  sum_to = reach_to (a +ℤ b) e (plain_sum a b p q)

  pub sum_off : r ≡ None → fits32 (a +ℤ b) ≡ false
  sum_off = reach_off (a +ℤ b) e (plain_sum a b p q)

-- what `difference` answers
module _ (a b : ℤ) {r : Option ℤ} (e : r ≡ reach (to_z w32 (of_z w32 a) -ℤ to_z w32 (of_z w32 b))) (p : SFits w32 a) (q : SFits w32 b) where
  pub difference_to : {v : ℤ} → r ≡ Some v → (fits32 (a -ℤ b) ≡ true) × (v ≡ a -ℤ b)
  difference_to = reach_to (a -ℤ b) e (plain_dif a b p q)

  pub difference_off : r ≡ None → fits32 (a -ℤ b) ≡ false
  difference_off = reach_off (a -ℤ b) e (plain_dif a b p q)
