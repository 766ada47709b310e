-- The laws of a stretch and of `CountsOn`, code by code: what they keep, and that a count keeps `Counting` over them.
-- Assumes nothing.
use Rattle.std.proofs.Common.{◌≡◌, ℕ, ◌+◌, ◌^◌, ◌<◌, ◌≤◌, Bool, true, false, cond, eqb, List, length, get_or, set, sym, refl, ap, ◌∙◌, subst, arith, lit≤, length-set, eq-eqb}
use Rattle.typesetter.specs.declared.machine.State.{State}
use Rattle.typesetter.specs.Machine.{with_carriage}
use Rattle.typesetter.specs.Sound.{Sound}
use Rattle.typesetter.specs.SoundLaws.{stays_sound}
use Rattle.tape_stretch.specs.declared.Stretch.{Stretch}
use Rattle.tape_stretch.specs.Stretch.{Strides, stands, moves, sets}
use Rattle.tape.specs.Tape.{max_tape}
use Rattle.tape.specs.RunLaws.{flashed}
use Rattle.figures.specs.Figures.{sum64}
use Rattle.figures.specs.Counting.{Counting, count_in, CountsOn, here, stretched, turned, leads}
use Rattle.figures.proofs.Arrays.{more_of}
use Rattle.figures.proofs.Countings.{recount, counting_few, counting_set, counting_turned, counting_lead, sets_one}

both_more : (t : Bool) (c m : ℕ) → c + cond t (m + 1) 0 ≡ (c + cond t m 0) + cond t 1 0
both_more true c m = omega arith
both_more false c m = omega arith

none_yet : (t : Bool) (c m : ℕ) → m ≡ 0 → c + cond t m 0 ≡ c
none_yet true c m e = omega arith
none_yet false c m e = omega arith

pub strides_onward : {tape : List ℕ} {s : State} {font : ℕ} {r q : Stretch} → Strides tape s font r q → r.next ≤ q.next
strides_onward stands = omega arith
strides_onward (moves p h e l) = omega (arith, strides_onward p)
strides_onward (sets p h e f) = omega (arith, strides_onward p)

pub strides_sound : {tape : List ℕ} {s : State} {font : ℕ} {r q : Stretch} → Strides tape s font r q → Sound (with_carriage s r.carriage) → Sound (with_carriage s q.carriage)
strides_sound stands z = z
strides_sound {tape} {s} (moves {q} p h e l) z = stays_sound (with_carriage s q.carriage) (strides_sound p z) (get_or tape q.next 0) e
strides_sound (sets p h e f) z = strides_sound p z

module _ (s₀ : State) (tape : List ℕ) (short : length tape ≤ max_tape) (s : State) (count : ℕ → ℕ) (forward backward : ℕ) where
  pub counting_strides : {font : ℕ} {r q : Stretch} → Strides tape s font r q → r.count ≡ 0 → Counting s₀ tape (with_carriage s r.carriage) count forward backward r.next
      → Counting s₀ tape (with_carriage s q.carriage) (λ n. count n + cond (eqb font n) q.count 0) forward backward q.next
  counting_strides {font} {r} stands z g = recount s₀ tape (with_carriage s r.carriage) count forward backward r.next g _ (λ n. none_yet (eqb font n) (count n) r.count z)
  counting_strides {font} (moves {q} {c} p h e l) z g =
      counting_turned s₀ tape (with_carriage s q.carriage) (λ n. count n + cond (eqb font n) q.count 0) forward backward q.next (counting_strides p z g) h short (with_carriage s c) e l
  counting_strides {font} (sets {q} {k} p h e f) z g =
      counting_set s₀ tape (with_carriage s q.carriage) (λ n. count n + cond (eqb font n) q.count 0) forward backward q.next (counting_strides p z g) h e flashed
      (λ n. count n + cond (eqb font n) (q.count + 1) 0)
      (λ n. both_more (eqb font n) (count n) q.count ∙ ap (λ (m : ℕ). count n + cond (eqb font n) q.count 0 + m) (sym (sets_one n k font f)))

-- the characters of a stretch added in the array
counting_added : (s₀ : State) (tape : List ℕ) → length tape ≤ max_tape → (s : State) (later next : List ℕ) (font m forward backward i : ℕ)
    → font < length later → next ≡ set later font (sum64 (get_or later font 0) m)
    → Counting s₀ tape s (λ n. count_in later n + cond (eqb font n) m 0) forward backward i → Counting s₀ tape s (count_in next) forward backward i
counting_added s₀ tape short s later next font m forward backward i h e g =
    let few = counting_few s₀ tape s (λ n. count_in later n + cond (eqb font n) m 0) forward backward i g font in
    let all : count_in later font + m ≤ i = subst (λ (u : Bool). count_in later font + cond u m 0 ≤ i) (eq-eqb font font refl) few in
    let big : max_tape < 2 ^ 64 = lit≤ tt in
    let fits : get_or later font 0 + m < 2 ^ 64 = omega (arith, all, g.inside, short, big) in
    recount s₀ tape s (λ n. count_in later n + cond (eqb font n) m 0) forward backward i g (count_in next)
    (λ n. ap (λ (x : List ℕ). get_or x n 0) e ∙ more_of later font m n h fits)

-- ---- onward

module _ {tape fonts : List ℕ} {s : State} {forward backward i : ℕ} where
  pub onward_place : {later : List ℕ} {t : State} {ahead back j : ℕ} → CountsOn tape fonts s forward backward i later t ahead back j → i ≤ j
  onward_place here = omega arith
  onward_place (stretched f p h e) = omega (arith, onward_place f, strides_onward p)
  onward_place (turned f h e l) = omega (arith, onward_place f)
  onward_place (leads f h e x y) = omega (arith, onward_place f)

  pub onward_sound : {later : List ℕ} {t : State} {ahead back j : ℕ} → CountsOn tape fonts s forward backward i later t ahead back j → Sound s → Sound t
  onward_sound here r = r
  onward_sound (stretched f p h e) r = strides_sound p (onward_sound f r)
  onward_sound (turned {t = t} {j = j} f h e l) r = stays_sound t (onward_sound f r) (get_or tape j 0) e
  onward_sound (leads {t = t} {j = j} f h e x y) r = stays_sound t (onward_sound f r) (get_or tape j 0) e

  pub onward_length : {later : List ℕ} {t : State} {ahead back j : ℕ} → CountsOn tape fonts s forward backward i later t ahead back j → length later ≡ length fonts
  onward_length here = refl
  onward_length (stretched {later = later} {font = font} {q = q} f p h e) = ap length e ∙ length-set later font (sum64 (get_or later font 0) q.count) ∙ onward_length f
  onward_length (turned f h e l) = onward_length f
  onward_length (leads f h e x y) = onward_length f

  -- a count goes on over it, whatever it started from
  pub counting_onward : (s₀ : State) → length tape ≤ max_tape → {later : List ℕ} {t : State} {ahead back j : ℕ} → CountsOn tape fonts s forward backward i later t ahead back j
      → Counting s₀ tape s (count_in fonts) forward backward i → Counting s₀ tape t (count_in later) ahead back j
  counting_onward s₀ short here g = g
  counting_onward s₀ short (stretched {later} {next} {t} {ahead} {back} {font = font} {q = q} f p h e) g =
      counting_added s₀ tape short (with_carriage t q.carriage) later next font q.count ahead back q.next h e
      (counting_strides s₀ tape short t (count_in later) ahead back p refl (counting_onward s₀ short f g))
  counting_onward s₀ short (turned {later} {t} {u} {ahead} {back} {j} f h e l) g = counting_turned s₀ tape t (count_in later) ahead back j (counting_onward s₀ short f g) h short u e l
  counting_onward s₀ short (leads {later} {t} {u} {ahead} {back} {j} {a} {b} f h e x y) g = counting_lead s₀ tape t (count_in later) ahead back j (counting_onward s₀ short f g) h short u e a b x y
