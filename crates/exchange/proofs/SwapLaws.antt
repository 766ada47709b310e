-- Two neighbouring codes that may change places: the run over them is the same either way, or refused either way.
--     Change         an instruction that changes one thing: the carriage, the height, or what it sets
--     end_of          what it comes to in a state: the value that it changes to, or a refusal
--     Apart          of two, neither alters what the other comes to, and their changes may be made in either order
--     swap_apart     two that are apart
--     swap           two exchangeable codes
-- Assumes nothing.
use Rattle.std.specs.Prelude.{◌≡◌, refl, Bool, true, false, cond, [], ◌∷◌, ℕ, suc, ◌+ℤ◌, Option, Some, None, Ok, Err}
use Rattle.std.proofs.Common.{sym, ap, ◌∙◌}
use Rattle.octets.specs.declared.refusal.Reason.{Reason}
use Rattle.octets.specs.declared.refusal.Reason.TheVariants.{Parked, OutOfRange}
use Rattle.measure.specs.declared.Units.{Units}
use Rattle.measure.specs.declared.Quanta.{Quanta}
use Rattle.measure.specs.Place.{directed_by, carriage_at, height_at}
use Rattle.typesetter.specs.declared.code.Machine.{Machine}
use Rattle.typesetter.specs.declared.code.Instruction.{Instruction}
use Rattle.typesetter.specs.declared.code.Instruction.TheVariants.{Lead, Escape}
use Rattle.typesetter.specs.declared.code.Code.TheVariants.{Ignored, Instructs}
use Rattle.typesetter.specs.declared.machine.State.{State}
use Rattle.typesetter.specs.declared.machine.Effect.TheVariants.{Moved, Flashed, PageEnded}
use Rattle.typesetter.specs.Code.{code_of}
use Rattle.typesetter.specs.Machine.{Step, off_switch_at, with_height, origin, leaves_switch, to_carriage, to_height, escape_of, lead_of, instruction_effect, byte_effect}
use Rattle.typesetter.specs.EffectLaws.{moved_machine, page_ended_machine}
use Rattle.typesetter.specs.StepLaws.{step_ignored, instruction_early, instruction_after_cut, instruction_after_stop, instruction_taken}
use Rattle.tape.specs.Tape.{Run, run}
use Rattle.exchange.specs.Exchange.{escapeWay, leadWay, turn, Setting, moded, sized, setting_instruction, Beside, Commuting, escape_lead, settings, escape_setting, lead_setting, either, Exchangeable, instructions, ignored_first, ignored_second}
use Rattle.exchange.proofs.AlikeLaws.{same, refused, alike_back, run_refuses, run_first, run_second, refuses_second, Swapped, both_refused}
use Rattle.exchange.proofs.SettingLaws.{applied, each_mode, applied_either, escape_way, lead_way}

-- ---- instructions that change one thing

data Change : Type 0 where
  escaping leading : ℕ → Change
  setting : Setting → Change

abbrev instruction_of : Change → Instruction
instruction_of (escaping n) = Escape n
instruction_of (leading n) = Lead n
instruction_of (setting x) = setting_instruction x

-- what it changes to; a setting says so itself
abbrev Value : Change → Type 0
Value (escaping n) = Units
Value (leading n) = Quanta
Value (setting x) = Unit {0}

abbrev changed : State → (m : Change) → Value m → State
changed s (escaping n) c = off_switch_at s c
changed s (leading n) h = with_height s h
changed s (setting x) _ = applied s x

data Ends (A : Type 0) : Type 0 where
  to : A → Ends A
  refuses : Reason → Ends A

abbrev across_to : Option Units → Ends Units
across_to (Some c) = to c
across_to None = refuses OutOfRange

abbrev down_to : Option Quanta → Ends Quanta
down_to (Some h) = to h
down_to None = refuses OutOfRange

-- an escape and a lead by what they read: the direction, the place, and for an escape whether the carriage is parked
abbrev escape_from : ℕ → Bool → Bool → Units → Ends Units
escape_from n parked back c = cond parked (cond (leaves_switch back n) (to origin) (refuses Parked)) (across_to (carriage_at (c.0 +ℤ directed_by back n)))

abbrev lead_from : ℕ → Bool → Quanta → Ends Quanta
lead_from n back h = down_to (height_at (h.0 +ℤ directed_by back n))

abbrev end_of : State → (m : Change) → Ends (Value m)
end_of s (escaping n) = escape_from n s.parked s.modes.escape_back s.carriage
end_of s (leading n) = lead_from n s.modes.lead_back s.height
end_of s (setting x) = to tt

abbrev effect_by : State → (m : Change) → Ends (Value m) → Step
effect_by s m (to v) = Ok (Moved (changed s m v))
effect_by s m (refuses k) = Err k

effect_by_lem : (s : State) (m : Change) → instruction_effect s (instruction_of m) ≡ effect_by s m (end_of s m)
unfolding instruction_effect escape_of lead_of
effect_by_lem s (escaping n) =
    go s.parked (leaves_switch s.modes.escape_back n) (carriage_at (s.carriage.0 +ℤ directed_by s.modes.escape_back n))
  where
    go : (p l : Bool) (r : Option Units) → cond p (cond l (Ok (Moved (off_switch_at s origin))) (Err Parked)) (to_carriage s r)
        ≡ effect_by s (escaping n) (cond p (cond l (to origin) (refuses Parked)) (across_to r))
    go true true r = refl
    go true false r = refl
    go false l (Some c) = refl
    go false l None = refl
effect_by_lem s (leading n) = go (height_at (s.height.0 +ℤ directed_by s.modes.lead_back n))
  where
    go : (r : Option Quanta) → to_height s r ≡ effect_by s (leading n) (down_to r)
    go (Some h) = refl
    go None = refl
effect_by_lem s (setting (moded m u)) = each_mode (λ m. instruction_effect s (turn m u) ≡ Ok (Moved (applied s (moded m u)))) refl refl refl refl refl refl m
effect_by_lem s (setting (sized n)) = refl

-- ---- on an initialized machine, before stop or cut, where instructions are taken

record Taking (initialized cut stopped : Bool) : Type 0 where
  begun : initialized ≡ true
  uncut : cut ≡ false
  unstopped : stopped ≡ false

abbrev Begun : State → Type 0
Begun s = Taking s.initialized s.cut s.stopped

begun_changed : (s : State) (m : Change) (v : Value m) → Begun s → Begun (changed s m v) × ((changed s m v).machine ≡ s.machine)
begun_changed s (escaping n) c r = (r, refl)
begun_changed s (leading n) h r = (r, refl)
begun_changed s (setting (moded m u)) _ r = (r, refl)
begun_changed s (setting (sized n)) _ r = (r, refl)

takes : (s : State) → Begun s → (m : Change) (c : ℕ) → code_of s.machine c ≡ Instructs (instruction_of m) → {o : Ends (Value m)} → end_of s m ≡ o
    → byte_effect s c ≡ effect_by s m o
takes s r m c e f = sym (instruction_taken s c e r.begun r.uncut r.unstopped) ∙ effect_by_lem s m ∙ ap (effect_by s m) f

takes_after : (s : State) → Begun s → (n : Change) (w : Value n) (m : Change) (c : ℕ) → code_of s.machine c ≡ Instructs (instruction_of m)
    → {o : Ends (Value m)} → end_of (changed s n w) m ≡ o → byte_effect (changed s n w) c ≡ effect_by (changed s n w) m o
takes_after s r n w m c e f = let k = begun_changed s n w r in takes (changed s n w) k.0 m c (ap (λ (x : Machine). code_of x c) k.1 ∙ e) f

record Apart (s : State) (m n : Change) : Type 0 where
  first_same : (w : Value n) → end_of (changed s n w) m ≡ end_of s m
  second_same : (v : Value m) → end_of (changed s m v) n ≡ end_of s n
  either_way : (v : Value m) (w : Value n) → changed (changed s m v) n w ≡ changed (changed s n w) m v

swap_apart : (s : State) (at : ℕ) → Begun s → {m n : Change} → Apart s m n → (a b : ℕ)
    → code_of s.machine a ≡ Instructs (instruction_of m) → code_of s.machine b ≡ Instructs (instruction_of n) → Swapped s at a b
swap_apart s at r {m} {n} x a b ea eb = go (end_of s m) refl (end_of s n) refl
  where
    first : {o : Ends (Value m)} → end_of s m ≡ o → byte_effect s a ≡ effect_by s m o
    first e = takes s r m a ea e

    second : {o : Ends (Value n)} → end_of s n ≡ o → byte_effect s b ≡ effect_by s n o
    second e = takes s r n b eb e

    first_after : (w : Value n) {o : Ends (Value m)} → end_of s m ≡ o → byte_effect (changed s n w) a ≡ effect_by (changed s n w) m o
    first_after w e = takes_after s r n w m a ea (x.first_same w ∙ e)

    second_after : (v : Value m) {o : Ends (Value n)} → end_of s n ≡ o → byte_effect (changed s m v) b ≡ effect_by (changed s m v) n o
    second_after v e = takes_after s r m v n b eb (x.second_same v ∙ e)

    go : (o : Ends (Value m)) → end_of s m ≡ o → (p : Ends (Value n)) → end_of s n ≡ p → Swapped s at a b
    go (to v) e (to w) f =
        same
        (run_second s at a (changed s m v) b (first e) (second_after v f)
        ∙ ap (λ (t : State). record { items = []; ending = Ok t }) (x.either_way v w)
        ∙ sym (run_second s at b (changed s n w) a (second f) (first_after w e)))
    go (to v) e (refuses k) f = refused (refuses_second s at a (changed s m v) b (first e) (second_after v f)) (run_refuses s at b (a ∷ []) (second f))
    go (refuses k) e (to w) f = refused (run_refuses s at a (b ∷ []) (first e)) (refuses_second s at b (changed s n w) a (second f) (first_after w e))
    go (refuses k) e (refuses l) f = both_refused s at a b (first e) (second f)

-- ---- instructions that commute

module _ (s : State) where
  escape_same : (n : ℕ) (x : Setting) → Beside escapeWay x → end_of (applied s x) (escaping n) ≡ end_of s (escaping n)
  escape_same n (moded m u) d = ap (λ (back : Bool). escape_from n s.parked back s.carriage) (escape_way s.modes u m d)
  escape_same n (sized k) d = refl

  lead_same : (n : ℕ) (x : Setting) → Beside leadWay x → end_of (applied s x) (leading n) ≡ end_of s (leading n)
  lead_same n (moded m u) d = ap (λ (back : Bool). lead_from n back s.height) (lead_way s.modes u m d)
  lead_same n (sized k) d = refl

  carriage_either : (c : Units) (x : Setting) → applied (off_switch_at s c) x ≡ off_switch_at (applied s x) c
  carriage_either c (moded m u) = refl
  carriage_either c (sized k) = refl

  height_either : (h : Quanta) (x : Setting) → applied (with_height s h) x ≡ with_height (applied s x) h
  height_either h (moded m u) = refl
  height_either h (sized k) = refl

swap_begun : (s : State) (at : ℕ) → Begun s → {o p : Instruction} → Commuting o p → (a b : ℕ) → code_of s.machine a ≡ Instructs o
    → code_of s.machine b ≡ Instructs p → Swapped s at a b
swap_begun s at r (escape_lead {n} {k}) =
    swap_apart s at r {m = escaping n} {n = leading k} (record { first_same = λ _. refl; second_same = λ _. refl; either_way = λ _ _. refl })
swap_begun s at r (settings x y d) =
    swap_apart s at r {m = setting x} {n = setting y} (record { first_same = λ _. refl; second_same = λ _. refl; either_way = λ _ _. applied_either s x y d })
swap_begun s at r (escape_setting {n} x d) =
    swap_apart s at r {m = escaping n} {n = setting x}
    (record { first_same = λ _. escape_same s n x d; second_same = λ _. refl; either_way = λ c _. carriage_either s c x })
swap_begun s at r (lead_setting {n} x d) =
    swap_apart s at r {m = leading n} {n = setting x}
    (record { first_same = λ _. lead_same s n x d; second_same = λ _. refl; either_way = λ h _. height_either s h x })
swap_begun s at r (either m) = λ a b ea eb. alike_back (swap_begun s at r m b a eb ea)

-- instructions that commute, on any machine in any state
swap_instructions : (s : State) (at a b : ℕ) {o p : Instruction} → code_of s.machine a ≡ Instructs o → code_of s.machine b ≡ Instructs p
    → Commuting o p → Swapped s at a b
swap_instructions s at a b ea eb m = go s.initialized refl s.cut refl s.stopped refl
  where
    go : (i : Bool) → s.initialized ≡ i → (c : Bool) → s.cut ≡ c → (t : Bool) → s.stopped ≡ t → Swapped s at a b
    go false i c ec t et = both_refused s at a b (sym (instruction_early s a ea i)) (sym (instruction_early s b eb i))
    go true i true c t et = both_refused s at a b (sym (instruction_after_cut s a ea i c)) (sym (instruction_after_cut s b eb i c))
    go true i false c true t = both_refused s at a b (sym (instruction_after_stop s a ea i c t)) (sym (instruction_after_stop s b eb i c t))
    go true i false c false t = swap_begun s at (record { begun = i; uncut = c; unstopped = t }) m a b ea eb

-- 00 does nothing, on either side
swap_ignored : (s : State) (at a b : ℕ) → code_of s.machine a ≡ Ignored → Swapped s at a b
unfolding run
swap_ignored s at a b ea = go (byte_effect s b) refl
  where
    nothing : (t : State) → t.machine ≡ s.machine → byte_effect t a ≡ Ok (Moved t)
    nothing t k = sym (step_ignored t a (ap (λ (m : Machine). code_of m a) k ∙ ea))

    first : run s at (a ∷ b ∷ []) ≡ run s (suc at) (b ∷ [])
    first = run_first s at a (b ∷ []) (nothing s refl)

    go : (x : Step) → byte_effect s b ≡ x → Swapped s at a b
    go (Ok (Moved t)) e = same (first ∙ rw (e, run) (rw (nothing t (moved_machine s b e), run)))
    go (Ok (Flashed c)) e = same (first ∙ rw (e, run) (rw (nothing s refl, run)))
    go (Ok (PageEnded t)) e = same (first ∙ rw (e, run) (rw (nothing t (page_ended_machine s b e), run)))
    go (Err n) e = refused (ap (λ (x : Run). x.ending) first ∙ run_refuses s (suc at) b [] e) (run_refuses s at b (a ∷ []) e)

pub swap : (s : State) (at a b : ℕ) → Exchangeable s.machine a b → Swapped s at a b
swap s at a b (instructions ea eb m) = swap_instructions s at a b ea eb m
swap s at a b (ignored_first e) = swap_ignored s at a b e
swap s at a b (ignored_second e) = alike_back (swap_ignored s at b a e)
