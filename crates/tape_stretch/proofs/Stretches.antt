-- The codes of a stretch, taken without the whole step: 00, flashes and escapes.
-- Assumes nothing.
use Rattle.std.specs.Prelude.{Some, Ok}
use mathlib.Core.Path.{◌≡◌, refl, sym, ap, subst, ◌∙◌}
use mathlib.Core.List.{List}
use mathlib.Core.Bool.{Bool, true, false, cond}
use Prim.Native.Nat.{ℕ, zero, suc, ◌+◌, ◌-◌, ◌*◌, ◌/◌, ◌%◌, ◌≤◌, ◌<◌}
use native.Mathlib.Omega.{arith}
use borrow.Author.Tests.{le-ltb, lt-leb, ne_eqb, ltb-true, ltb-false, eqb-true, eqb-false}
use lib.Dec.{ltb, eqb}
use lib.ListN.{length, get_or}
use lib.IntN.{ℤ, pos, ◌+ℤ◌}
use Rattle.integers.specs.Parts.{integers, sum_parts}
use Rattle.measure.specs.declared.Units.{Units}
use Rattle.measure.specs.declared.Quanta.{Quanta}
use Rattle.measure.specs.Place.{directed_by, carriage_at}
use Rattle.measure.specs.PlaceLaws.{carriage_in}
use Rattle.measure.specs.Target.{x_of}
use Rattle.galley_file.specs.declared.character.Character.{Character}
use Rattle.galley_file.specs.Font.{font_number, is_double}
use Rattle.typesetter.specs.declared.code.Machine.{Machine}
use Rattle.typesetter.specs.declared.machine.Modes.{Modes}
use Rattle.typesetter.specs.declared.machine.State.{State}
use Rattle.typesetter.specs.declared.machine.Effect.TheVariants.{Moved, Flashed}
use Rattle.tape_stretch.specs.declared.derived.Derived.{Derived}
use Rattle.tape_stretch.specs.declared.Stretch.{Stretch}
use Rattle.typesetter.specs.Code.{code_of}
use Rattle.typesetter.specs.CodeLaws.{not_zero, code_flash, code_escape}
use Rattle.typesetter.specs.Machine.{no_size_yet, font_in, past_half, code_in, with_carriage, with_height, instruction_effect, byte_effect}
use Rattle.typesetter.specs.SoundLaws.{font_range}
use Rattle.tape_stretch.specs.Stretch.{Ready, half_size, Flashing, DerivedFrom, Takes, escape_by, flashes_in, NoLead, Strides, moves, sets}
use Rattle.typesetter.specs.StepLaws.{step_ignored, instruction_taken, flash_set, escape_at}

pub number_range : (machine : Machine) (m : Modes) (size : ℕ) → size < no_size_yet → font_number (font_in machine m) size < 120
number_range machine m size h = omega (arith, (font_range machine m.upper_rail m.upper_mag m.tilt_down).1)

pub half_taken : (u : Bool) (v : ℕ) → v ≤ half_size u → (v < 64) × (past_half u v ≡ false)
half_taken true v h = (omega arith, le-ltb _ _ h)
half_taken false v h = (omega arith, refl)

module _ (s : State) (b : ℕ) where
  pub quick_ignored : b ≡ 0 → byte_effect s b ≡ Ok (Moved (with_carriage s s.carriage))
  unfolding code_of
  quick_ignored e = sym (step_ignored s b (rw e))

  pub quick_set : (d : Derived) → Flashing s d → 1 ≤ b → b ≤ d.last_flash → (x : Units) (k : ℕ) → x.0 ≡ x_of s.carriage.0 (is_double s.size) → k ≡ code_in s.modes.upper_half b
      → byte_effect s b ≡ Ok (Flashed (record { x = x; height = s.height; font = d.font; code = k }))
  unfolding instruction_effect
  quick_set d f h l x k ex ek =
      let t = half_taken s.modes.upper_half b (omega (arith, f.last)) in
      sym
      (flash_set s b f.runs.unparked (lt-leb _ _ f.sized) t.1 x d.font k ex f.number ek
      ∙ instruction_taken s b (code_flash s.machine b h t.0) f.runs.begun f.runs.uncut f.runs.unstopped)

  pub quick_at : Ready s → 128 ≤ b → b < 255 → (c : Units) → carriage_at (s.carriage.0 +ℤ directed_by s.modes.escape_back (127 - b % 128)) ≡ Some c
      → byte_effect s b ≡ Ok (Moved (with_carriage s c))
  unfolding instruction_effect
  quick_at r h k c e =
      sym (escape_at s (127 - b % 128) r.unparked c e ∙ instruction_taken s b (code_escape s.machine b h k) r.begun r.uncut r.unstopped)

-- ---- codes that are counted

pub small_product : (q k : ℕ) → q < 2 → k ≤ 127 → q * k < 256
small_product zero k h l = omega arith
small_product (suc zero) k h l = omega arith
small_product (suc (suc q)) k h l = absurd (omega arith)

no_way : (q k : ℕ) → q ≡ 0 → q * k ≡ 0
no_way zero k e = omega arith
no_way (suc q) k e = absurd (omega arith)

one_way : (q k : ℕ) → q ≡ 1 → q * k ≡ k
one_way zero k e = absurd (omega arith)
one_way (suc zero) k e = omega arith
one_way (suc (suc q)) k e = absurd (omega arith)

stands_at : (back : Bool) (z : ℤ) → z +ℤ directed_by back 0 ≡ z
unfolding directed_by
stands_at true z = omega (integers, sum_parts z (pos 0))
stands_at false z = omega (integers, sum_parts z (pos 0))

pub one_at_most : (b : ℕ) → flashes_in b ≤ 1
one_at_most b = go (eqb b 0)
  where
    go : (t : Bool) → cond t 0 (1 - b / 128) ≤ 1
    go true = omega arith
    go false = omega arith

-- what is derived from a state stays where only the carriage and the height move
pub still_derived : (s : State) (c : Units) (q : Quanta) {d : Derived} → DerivedFrom s d → DerivedFrom (with_height (with_carriage s c) q) d
still_derived s c q f =
    record {
      numbered = f.numbered;
      escapes = f.escapes;
      escaping = λ h. let r = f.escaping h in record { begun = r.begun; uncut = r.uncut; unstopped = r.unstopped; unparked = r.unparked };
      flashing = λ h.
          let g = f.flashing h in
          record {
            runs = record { begun = g.runs.begun; uncut = g.runs.uncut; unstopped = g.runs.unstopped; unparked = g.runs.unparked };
            sized = g.sized;
            last = g.last;
            number = g.number;
          };
    }

-- one code more: it leaves the carriage at c
module _ (tape : List ℕ) (s : State) (d : Derived) (f : DerivedFrom s d) (r q : Stretch) (p : Strides tape s d.font r q) (h : q.next < length tape) (t : Takes d (get_or tape q.next 0)) (c : Units) (e : carriage_at (q.carriage.0 +ℤ directed_by s.modes.escape_back (escape_by (get_or tape q.next 0))) ≡ Some c) where
  abbrev b : ℕ
  b = get_or tape q.next 0

  abbrev here : State
  here = with_carriage s q.carriage

  stays : b < 128 → q.carriage ≡ c
  stays l =
      let back = s.modes.escape_back in
      let z = q.carriage.0 in
      let same : z +ℤ directed_by back (escape_by b) ≡ z = ap (λ (n : ℕ). z +ℤ directed_by back n) (no_way (b / 128) (127 - b % 128) (omega arith)) ∙ stands_at back z in
      λ i. record { 0 = sym ((carriage_in (z +ℤ directed_by back (escape_by b)) c e).0 ∙ same) i }

  abbrev After : Units → ℕ → Type 0
  After u n = Strides tape s d.font r (record { next = q.next + 1; carriage = u; count = n })

  moving : byte_effect here b ≡ Ok (Moved (with_carriage s c)) → NoLead b → flashes_in b ≡ 0 → After c (q.count + flashes_in b)
  moving m l z = let same : q.count ≡ q.count + flashes_in b = omega (arith, z) in subst (After c) same (moves p h m l)

  setting : {k : Character} → byte_effect here b ≡ Ok (Flashed k) → k.font ≡ d.font → q.carriage ≡ c → flashes_in b ≡ 1 → After c (q.count + flashes_in b)
  setting m n u z =
      let more : q.count + 1 ≡ q.count + flashes_in b = omega (arith, z) in
      subst (After c) more (subst (λ (v : Units). After v (q.count + 1)) u (sets p h m n))

  pub strides_more : After c (q.count + flashes_in b)
  strides_more = high (ltb b 128) refl
    where
      g : DerivedFrom here d
      g = still_derived s q.carriage s.height f

      low : b < 128 → (u : Bool) → eqb b 0 ≡ u → After c (q.count + flashes_in b)
      low l true z =
          let zero = eqb-true b 0 z in
          moving (quick_ignored here b zero ∙ ap (λ (u : Units). Ok (Moved (with_carriage s u))) (stays l)) (λ n. absurd (omega arith)) (ap (λ (u : Bool). cond u 0 (1 - b / 128)) z)
      low l false z =
          let n = eqb-false b 0 z in
          let k : 1 ≤ b = omega arith in
          let last = t.flash l in
          setting (quick_set here b d (g.flashing (omega arith)) k last _ _ refl refl) refl (stays l) (ap (λ (u : Bool). cond u 0 (1 - b / 128)) z ∙ omega arith)

      high : (u : Bool) → ltb b 128 ≡ u → After c (q.count + flashes_in b)
      high true z = low (ltb-true b 128 z) (eqb b 0) refl
      high false z =
          let m : 128 ≤ b = ltb-false b 128 z in
          let last = t.escape m in
          let most = f.escapes in
          moving
          (quick_at here b (g.escaping (omega arith)) m (omega arith) c
          (ap (λ (n : ℕ). carriage_at (q.carriage.0 +ℤ directed_by s.modes.escape_back n)) (sym (one_way (b / 128) (127 - b % 128) (omega arith))) ∙ e))
          (λ _. m)
          (ap (λ (u : Bool). cond u 0 (1 - b / 128)) (ne_eqb b 0 (not_zero b (omega arith))) ∙ omega arith)
