-- What a word was made of can be read from it again.
--     signed_fits, word_back                  a signed number
--     flag_back, machine_back, phase_back     a flag, a machine, a phase
--     leaves_words                            what a call promises, from the words before and after it
-- Assumes nothing.
use Rattle.std.specs.Prelude.{◌≡◌, refl, Bool, true, false, cond, List, ℕ, ◌%◌, ◌<◌, eqb, ℤ, pos, negsuc, nat_abs, ◌+ℤ◌, ◌-ℤ◌}
use Rattle.std.proofs.Common.{ap, subst, ◌∙◌, arith, SFits, to_z, of_z}
use Rattle.std.specs.Int.{w32}
use Rattle.integers.specs.Parts.{integers, bounds, sum_parts, dif_parts}
use Rattle.integers.specs.Bits.{plain}
use Rattle.octets.specs.Answer.{Outcome, numbers_of}
use Rattle.octets.specs.AnswerLaws.{gives_numbers}
use Rattle.typesetter.specs.declared.code.Machine.{Machine}
use Rattle.typesetter.specs.declared.code.Machine.TheVariants.{Four, Eight}
use Rattle.running.specs.declared.Phase.{Phase}
use Rattle.running.specs.declared.Phase.TheVariants.{AtRest, Open, Failed}
use Rattle.running.specs.declared.Running.{Running}
use Rattle.running.specs.Running.{Replied, Leaves}
use Rattle.spatecanter_running.specs.Words.{word_of, signed_in, flag_word, machine_word, machine_in, phase_word, number_word, place_word, phase_in, Holds, LeavesWords}

-- the number that a word holds has 32 bits
pub signed_fits : (w : ℕ) → SFits w32 (signed_in w)
unfolding signed_in
signed_fits w = omega (integers, dif_parts (pos (w % 4294967296)) (pos 2147483648))

pub word_held : (w : ℕ) {z : ℤ} → z ≡ signed_in w → to_z w32 (of_z w32 z) ≡ signed_in w
word_held w e = ap (λ (z : ℤ). to_z w32 (of_z w32 z)) e ∙ plain (signed_fits w)

pub word_back : (z : ℤ) → SFits w32 z → signed_in (word_of z) ≡ z
unfolding signed_in word_of
word_back z f = go (z +ℤ pos 2147483648) refl
  where
    go : (s : ℤ) → z +ℤ pos 2147483648 ≡ s → pos (nat_abs s % 4294967296) -ℤ pos 2147483648 ≡ z
    go (pos n) e =
        let small : n < 4294967296 = omega (integers, e, bounds f, sum_parts z (pos 2147483648)) in
        let same : n % 4294967296 ≡ n = omega (arith, small) in
        omega (integers, same, e, sum_parts z (pos 2147483648), dif_parts (pos (n % 4294967296)) (pos 2147483648))
    go (negsuc n) e = absurd (omega (integers, e, bounds f, sum_parts z (pos 2147483648)))

pub flag_back : (b : Bool) {w : ℕ} → w ≡ flag_word b → eqb w 1 ≡ b
flag_back true e = ap (λ (w : ℕ). eqb w 1) e
flag_back false e = ap (λ (w : ℕ). eqb w 1) e

pub machine_back : (m : Machine) {w : ℕ} → w ≡ machine_word m → machine_in w ≡ m
machine_back Four e = ap machine_in e
machine_back Eight e = ap machine_in e

pub phase_back : (p : Phase) (b : ℕ) {a c : ℕ} → a ≡ phase_word p → b % 256 ≡ number_word p → c ≡ place_word p → phase_in a b c ≡ p
phase_back AtRest b {c = c} e f g = ap (λ (a : ℕ). phase_in a b c) e
phase_back Open b {c = c} e f g = ap (λ (a : ℕ). phase_in a b c) e
phase_back (Failed n place) b e f g = λ i. cond (eqb (e i) 1) Open (cond (eqb (e i) 2) (Failed (f i) (g i)) AtRest)

-- the words before the call hold the tape r, and those after it the tape that is left
pub leaves_words : {given : Outcome} {left r s : Running} {numbers words buffer later : List ℕ} (reply : Running → ℕ → Replied) → r ≡ s
    → numbers ≡ numbers_of given → Holds words left → Leaves given left (reply r) buffer later → LeavesWords numbers words (reply s) buffer later
leaves_words {given} {left} {numbers = numbers} {words = words} {buffer = buffer} {later = later} reply q n h l =
    subst (λ (t : Running). LeavesWords numbers words (reply t) buffer later) q
    (record { gives = gives_numbers n l.gives; leaves = subst (Holds words) l.leaves h })
