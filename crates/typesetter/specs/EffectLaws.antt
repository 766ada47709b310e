-- Every effect of a code, by what led to it: a law about all codes goes through these cases.
--     Turning          an instruction that sets a mode
--     IsFault          2 to 10, the numbers under which a code is refused
--     Causes           a code, and the effect that it causes in a state
--     causes           the effect of every code is one of them
--     fault_effect     a code is refused under one of those numbers
--     moved_machine, page_ended_machine    no code changes the machine
-- Assumes nothing.
use Rattle.std.specs.Prelude.{◌≡◌, Bool, true, false, ℕ, ◌≤◌, ◌<◌, leb, ℤ, ◌+ℤ◌, Option, Some, None, Ok, Err}
use Rattle.std.proofs.Math.Path.{refl, subst}
use Rattle.std.proofs.Math.Bool.{cond}
use Rattle.std.proofs.Common.{leb-false}
use Rattle.std.proofs.Math.Dec.{lit≤}
use Rattle.integers.specs.Parts.{integers}
use Rattle.octets.specs.Answer.{number_in}
use Rattle.octets.specs.declared.refusal.Reason.{Reason}
use Rattle.octets.specs.declared.refusal.Reason.TheVariants.{AboveHalf, AfterCut, AfterStop, NoSize, NotInitialized, Parked}
use Rattle.measure.specs.declared.Units.{Units}
use Rattle.measure.specs.declared.Quanta.{Quanta}
use Rattle.measure.specs.Place.{carriage_end, directed_by, carriage_at, height_at}
use Rattle.measure.specs.PlaceLaws.{InRange, carriage_in}
use Rattle.typesetter.specs.declared.code.Instruction.{Instruction}
use Rattle.typesetter.specs.declared.code.Instruction.TheVariants.{Flash, Rail, Mag, Half, EscapeWay, LeadWay, Tilt, Size, Stop, Cut, Lead, Escape}
use Rattle.typesetter.specs.declared.code.Code.{Code}
use Rattle.typesetter.specs.declared.code.Code.TheVariants.{Ignored, Illegal, Initialize, Instructs}
use Rattle.typesetter.specs.declared.machine.Modes.{Modes}
use Rattle.typesetter.specs.declared.machine.State.{State}
use Rattle.typesetter.specs.declared.machine.Effect.TheVariants.{Moved, Flashed, PageEnded}
use Rattle.typesetter.specs.Code.{code_of}
use Rattle.typesetter.specs.Machine.{Step, no_size_yet, origin, initialized_of, past_half, character_in, leaves_switch, with_modes, with_size, with_stop, off_switch_at, with_height, with_cut, to_carriage, to_height, flash_of, escape_of, lead_of, instruction_effect, code_effect, byte_effect}

pub data Turning : Instruction → Type 0 where
  rails : {up : Bool} → Turning (Rail up)
  mags : {up : Bool} → Turning (Mag up)
  halves : {up : Bool} → Turning (Half up)
  escape_ways : {back : Bool} → Turning (EscapeWay back)
  lead_ways : {back : Bool} → Turning (LeadWay back)
  tilts : {down : Bool} → Turning (Tilt down)

abbrev pub IsFault : ℕ → Type 0
IsFault n = (2 ≤ n) × (n ≤ 10)

pub data Causes (s : State) : Code → Step → Type 0 where
  refuses : {k : Code} {r : Reason} → IsFault (number_in r) → Causes s k (Err r)
  ignores : Causes s Ignored (Ok (Moved s))
  initializes : Causes s Initialize (Ok (Moved (initialized_of s)))
  flashes : {v : ℕ} → s.size < no_size_yet → past_half s.modes.upper_half v ≡ false → Causes s (Instructs (Flash v)) (Ok (Flashed (character_in s v)))
  turns : {o : Instruction} {m : Modes} → Turning o → Causes s (Instructs o) (Ok (Moved (with_modes s m)))
  sizes : {index : ℕ} → Causes s (Instructs (Size index)) (Ok (Moved (with_size s index)))
  stops : s.stopped ≡ false → Causes s (Instructs Stop) (Ok (Moved (with_stop s)))
  cuts : s.stopped ≡ false → Causes s (Instructs Cut) (Ok (PageEnded (with_cut s)))
  leads : {n : ℕ} {h : Quanta} → s.stopped ≡ false → height_at (s.height.0 +ℤ directed_by s.modes.lead_back n) ≡ Some h → Causes s (Instructs (Lead n)) (Ok (Moved (with_height s h)))
  escapes : {n : ℕ} {c : Units} → InRange carriage_end c.0 → Causes s (Instructs (Escape n)) (Ok (Moved (off_switch_at s c)))

pub at_origin : InRange carriage_end origin.0
at_origin = record { low = omega integers; high = omega integers }

module _ (s : State) where
  either_way : (k : Code) (t : Bool) (x y : Step) → (t ≡ true → Causes s k x) → (t ≡ false → Causes s k y) → Causes s k (cond t x y)
  either_way k true x y f g = f refl
  either_way k false x y f g = g refl

  refused_if : (k : Code) (r : Reason) → IsFault (number_in r) → {X : Type 0} → X → Causes s k (Err r)
  refused_if k r h e = refuses h

  causes_flash : (v : ℕ) → Causes s (Instructs (Flash v)) (flash_of s v)
  unfolding flash_of
  causes_flash v =
      let k = Instructs (Flash v) in
      let past = past_half s.modes.upper_half v in
      let done = cond past (Err AboveHalf) (Ok (Flashed (character_in s v))) in
      either_way k s.parked (Err Parked) (cond (leb no_size_yet s.size) (Err NoSize) done) (refused_if k Parked (lit≤ tt, lit≤ tt)) (λ _.
      either_way k (leb no_size_yet s.size) (Err NoSize) done (refused_if k NoSize (lit≤ tt, lit≤ tt)) (λ z.
      either_way k past (Err AboveHalf) (Ok (Flashed (character_in s v))) (refused_if k AboveHalf (lit≤ tt, lit≤ tt)) (flashes (leb-false no_size_yet s.size z))))

  causes_height : (n : ℕ) (r : Option Quanta) → s.stopped ≡ false → height_at (s.height.0 +ℤ directed_by s.modes.lead_back n) ≡ r → Causes s (Instructs (Lead n)) (to_height s r)
  causes_height n (Some h) f e = leads f e
  causes_height n None f e = refuses (lit≤ tt, lit≤ tt)

  causes_carriage : (n : ℕ) (z : ℤ) (r : Option Units) → carriage_at z ≡ r → Causes s (Instructs (Escape n)) (to_carriage s r)
  causes_carriage n z (Some c) e = escapes (carriage_in z c e).1
  causes_carriage n z None e = refuses (lit≤ tt, lit≤ tt)

  causes_escape : (n : ℕ) → Causes s (Instructs (Escape n)) (escape_of s n)
  unfolding escape_of
  causes_escape n =
      let k = Instructs (Escape n) in
      let back = s.modes.escape_back in
      let z = s.carriage.0 +ℤ directed_by back n in
      either_way k s.parked (cond (leaves_switch back n) (Ok (Moved (off_switch_at s origin))) (Err Parked)) (to_carriage s (carriage_at z))
      (λ _. either_way k (leaves_switch back n) (Ok (Moved (off_switch_at s origin))) (Err Parked) (λ _. escapes at_origin) (refused_if k Parked (lit≤ tt, lit≤ tt)))
      (λ _. causes_carriage n z (carriage_at z) refl)

  causes_instruction : (o : Instruction) → s.stopped ≡ false → Causes s (Instructs o) (instruction_effect s o)
  unfolding instruction_effect lead_of
  causes_instruction (Flash v) f = causes_flash v
  causes_instruction (Rail up) f = turns rails
  causes_instruction (Mag up) f = turns mags
  causes_instruction (Half up) f = turns halves
  causes_instruction (EscapeWay back) f = turns escape_ways
  causes_instruction (LeadWay back) f = turns lead_ways
  causes_instruction (Tilt down) f = turns tilts
  causes_instruction (Size index) f = sizes
  causes_instruction Stop f = stops f
  causes_instruction Cut f = cuts f
  causes_instruction (Lead n) f = causes_height n (height_at (s.height.0 +ℤ directed_by s.modes.lead_back n)) f refl
  causes_instruction (Escape n) f = causes_escape n

  causes_code : (k : Code) → Causes s k (code_effect s k)
  unfolding code_effect
  causes_code Ignored = ignores
  causes_code Illegal = refuses (lit≤ tt, lit≤ tt)
  causes_code Initialize = either_way Initialize s.stopped (Err AfterStop) (Ok (Moved (initialized_of s))) (refused_if Initialize AfterStop (lit≤ tt, lit≤ tt)) (λ _. initializes)
  causes_code (Instructs o) =
      let k = Instructs o in
      let taken = cond s.stopped (Err AfterStop) (instruction_effect s o) in
      either_way k s.initialized (cond s.cut (Err AfterCut) taken) (Err NotInitialized)
      (λ _. either_way k s.cut (Err AfterCut) taken (refused_if k AfterCut (lit≤ tt, lit≤ tt)) (λ _.
      either_way k s.stopped (Err AfterStop) (instruction_effect s o) (refused_if k AfterStop (lit≤ tt, lit≤ tt)) (causes_instruction o)))
      (refused_if k NotInitialized (lit≤ tt, lit≤ tt))

  pub causes : (b : ℕ) {x : Step} → byte_effect s b ≡ x → Causes s (code_of s.machine b) x
  unfolding byte_effect
  causes b e = subst (Causes s (code_of s.machine b)) e (causes_code (code_of s.machine b))

  abbrev pub FaultOf : Step → Type 0
  FaultOf (Ok (Moved t)) = Unit {0}
  FaultOf (Ok (Flashed c)) = Unit {0}
  FaultOf (Ok (PageEnded t)) = Unit {0}
  FaultOf (Err r) = IsFault (number_in r)

  pub fault_effect : (b : ℕ) {x : Step} → byte_effect s b ≡ x → FaultOf x
  fault_effect b e = go (causes b e)
    where
      go : {k : Code} {x : Step} → Causes s k x → FaultOf x
      go (refuses h) = h
      go ignores = tt
      go initializes = tt
      go (flashes z a) = tt
      go (turns t) = tt
      go sizes = tt
      go (stops f) = tt
      go (cuts f) = tt
      go (leads f e) = tt
      go (escapes r) = tt

  -- an effect leaves the machine as it is
  abbrev Kept : Step → Type 0
  Kept (Ok (Moved t)) = t.machine ≡ s.machine
  Kept (Ok (Flashed c)) = Unit {0}
  Kept (Ok (PageEnded t)) = t.machine ≡ s.machine
  Kept (Err r) = Unit {0}

  kept_by : {k : Code} {x : Step} → Causes s k x → Kept x
  kept_by (refuses h) = tt
  kept_by ignores = refl
  kept_by initializes = refl
  kept_by (flashes z a) = tt
  kept_by (turns t) = refl
  kept_by sizes = refl
  kept_by (stops f) = refl
  kept_by (cuts f) = refl
  kept_by (leads f e) = refl
  kept_by (escapes r) = refl

  pub moved_machine : (b : ℕ) {t : State} → byte_effect s b ≡ Ok (Moved t) → t.machine ≡ s.machine
  moved_machine b e = kept_by (causes b e)

  pub page_ended_machine : (b : ℕ) {t : State} → byte_effect s b ≡ Ok (PageEnded t) → t.machine ≡ s.machine
  page_ended_machine b e = kept_by (causes b e)
