-- What codes that go further keep, by the codes one after another.
--     further_onward     the place does not go back
--     further_few        no more characters than places
--     further_sound      a sound state stays sound
--     further_length     the buffer keeps its length
--     further_then       one run of codes after another
--     further_strides    a stretch where nothing is written
-- Assumes nothing.
use Rattle.std.specs.Prelude.{◌≡◌, refl, Bool, true, false, List, ℕ, ◌+◌, ◌*◌, ◌≤◌, length, get_or}
use Rattle.std.proofs.Common.{ap, ◌∙◌, arith}
use Rattle.std.proofs.Math.Seq.{length-sets}
use Rattle.galley_file.specs.declared.form.Form.TheVariants.{New}
use Rattle.galley_file.specs.declared.item.Item.{Item}
use Rattle.galley_file.specs.declared.item.Item.TheVariants.{Placed}
use Rattle.galley_file.specs.Item.{item_field}
use Rattle.typesetter.specs.declared.machine.State.{State}
use Rattle.typesetter.specs.Machine.{with_carriage}
use Rattle.typesetter.specs.Sound.{Sound}
use Rattle.typesetter.specs.SoundLaws.{stays_sound}
use Rattle.tape_stretch.specs.declared.Stretch.{Stretch}
use Rattle.tape_stretch.specs.Stretch.{Strides, stands, moves, sets}
use Rattle.tape_stretch.specs.Further.{put_at, Further, here, moved, flashed}

length_put_at : (w : Bool) (n k : ℕ) (i : Item) (out : List ℕ) → length (put_at w n k i out) ≡ length out
length_put_at true n k i out = length-sets out (11 * n + k) (item_field New i)
length_put_at false n k i out = refl

module _ {w : Bool} {tape out : List ℕ} {s : State} {count cuts i : ℕ} where
  pub further_onward : {t : State} {n j : ℕ} {later : List ℕ} → Further w tape out s count cuts i t n j later → i ≤ j
  further_onward here = omega arith
  further_onward (moved f h e) = omega (arith, further_onward f)
  further_onward (flashed f h e q) = omega (arith, further_onward f)

  pub further_few : {t : State} {n j : ℕ} {later : List ℕ} → Further w tape out s count cuts i t n j later → count ≤ i → n ≤ j
  further_few here l = l
  further_few (moved f h e) l = omega (arith, further_few f l)
  further_few (flashed f h e q) l = omega (arith, further_few f l)

  pub further_sound : {t : State} {n j : ℕ} {later : List ℕ} → Further w tape out s count cuts i t n j later → Sound s → Sound t
  further_sound here r = r
  further_sound (moved {t = t} {j = j} f h e) r = stays_sound t (further_sound f r) (get_or tape j 0) e
  further_sound (flashed f h e q) r = further_sound f r

  pub further_length : {t : State} {n j : ℕ} {later : List ℕ} → Further w tape out s count cuts i t n j later → length later ≡ length out
  further_length here = refl
  further_length (moved f h e) = further_length f
  further_length (flashed {n = n} {later = later} {k = k} f h e q) = ap length q ∙ length_put_at w n cuts (Placed k) later ∙ further_length f

  pub further_then : {t : State} {n j : ℕ} {later : List ℕ} → Further w tape out s count cuts i t n j later
      → {u : State} {m k : ℕ} {next : List ℕ} → Further w tape later t n cuts j u m k next → Further w tape out s count cuts i u m k next
  further_then f here = f
  further_then f (moved g h e) = moved (further_then f g) h e
  further_then f (flashed g h e q) = flashed (further_then f g) h e q

pub further_strides : {tape out : List ℕ} {s : State} {cuts font : ℕ} {r q : Stretch} → Strides tape s font r q
    → Further false tape out (with_carriage s r.carriage) r.count cuts r.next (with_carriage s q.carriage) q.count q.next out
further_strides stands = here
further_strides (moves p h e l) = moved (further_strides p) h e
further_strides (sets p h e f) = flashed (further_strides p) h e refl
