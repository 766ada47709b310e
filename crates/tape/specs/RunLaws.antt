-- The laws of a run: on bytes cut in two, on the next byte, how many items it sets, and that they are valid.
--     run_append       a tape cut in two: the second piece is run from the state that the first reaches, at its place on the tape
--     run_moved, run_set, run_refused       the byte after a prefix
--     run_length       at most one item a byte
--     run_machine      on one machine all along
--     run_valid        from a sound state, valid characters
--     run_sound        and a sound state again
--     run_fault        what a run is refused with is one of 2 to 10
-- Assumes nothing.
use Rattle.std.specs.Prelude.{◌≡◌, refl, ℕ, suc, ◌+◌, ◌≤◌, ◌<◌, length, get_or, take, drop, Ok, Err}
use Rattle.octets.specs.declared.refusal.Refusal.{Refusal}
use Rattle.octets.specs.declared.refusal.Reason.{Reason}
use Rattle.octets.specs.Answer.{number_in}
use Rattle.std.proofs.Common.{sym, ap, subst, ◌∙◌, add-zero, suc-ne-zero, add-one, arith, take-append-drop, take-suc, drop-cons, length-take-le}
use mathlib.Core.List.{List, [], ◌∷◌, ◌++◌, append-nil}
use Rattle.measure.specs.Place.{height_end}
use Rattle.galley_file.specs.declared.character.Character.{Character}
use Rattle.galley_file.specs.declared.item.Item.{Item}
use Rattle.galley_file.specs.declared.item.Item.TheVariants.{Placed, Cut}
use Rattle.galley_file.specs.Galley.{AllValid, nil, more}
use Rattle.typesetter.specs.declared.machine.State.{State}
use Rattle.typesetter.specs.declared.machine.Effect.TheVariants.{Moved, Flashed, PageEnded}
use Rattle.typesetter.specs.Machine.{Step, byte_effect}
use Rattle.typesetter.specs.Sound.{Sound}
use Rattle.typesetter.specs.EffectLaws.{IsFault, fault_effect, moved_machine, page_ended_machine}
use Rattle.typesetter.specs.SoundLaws.{stays_sound, page_ended_sound, flashed_valid}
use Rattle.tape.specs.Tape.{Ending, Run, item_first, run}

-- a run after items that were set, by how these ended
abbrev pub go_on : List Item → Ending → (State → Run) → Run
go_on is (Ok t) rest = record { items = is ++ (rest t).items; ending = (rest t).ending }
go_on is (Err r) rest = record { items = is; ending = Err r }

after_go_on : (i : Item) (is : List Item) (e : Ending) (rest : State → Run) → item_first i (go_on is e rest) ≡ go_on (i ∷ is) e rest
after_go_on i is (Ok t) rest = refl
after_go_on i is (Err r) rest = refl

pub run_append : (s : State) (at : ℕ) (xs ys : List ℕ) → run s at (xs ++ ys) ≡ go_on (run s at xs).items (run s at xs).ending (λ t. run t (at + length xs) ys)
unfolding run
run_append s at [] ys = ap (λ (p : ℕ). run s p ys) (sym (add-zero at))
run_append s at (b ∷ xs) ys = go (λ t. run_append t (suc at) xs ys ∙ moved t) (byte_effect s b) refl
  where
    moved : (t : State) → go_on (run t (suc at) xs).items (run t (suc at) xs).ending (λ u. run u (suc at + length xs) ys)
        ≡ go_on (run t (suc at) xs).items (run t (suc at) xs).ending (λ u. run u (at + suc (length xs)) ys)
    moved t =
        let place : suc at + length xs ≡ at + suc (length xs) = omega arith in
        ap (λ (p : ℕ). go_on (run t (suc at) xs).items (run t (suc at) xs).ending (λ u. run u p ys)) place

    go : ((t : State) → run t (suc at) (xs ++ ys) ≡ go_on (run t (suc at) xs).items (run t (suc at) xs).ending (λ u. run u (at + suc (length xs)) ys))
        → (e : Step) → byte_effect s b ≡ e
        → run s at (b ∷ (xs ++ ys)) ≡ go_on (run s at (b ∷ xs)).items (run s at (b ∷ xs)).ending (λ t. run t (at + suc (length xs)) ys)
    go later (Ok (Moved t)) q = rw (q, run) (later t)
    go later (Ok (Flashed c)) q =
        rw (q, run) (ap (item_first (Placed c)) (later s) ∙ after_go_on (Placed c) (run s (suc at) xs).items (run s (suc at) xs).ending (λ t. run t (at + suc (length xs)) ys))
    go later (Ok (PageEnded t)) q =
        rw (q, run) (ap (item_first Cut) (later t) ∙ after_go_on Cut (run t (suc at) xs).items (run t (suc at) xs).ending (λ u. run u (at + suc (length xs)) ys))
    go later (Err n) q = rw (q, run)

pub run_length : (s : State) (at : ℕ) (bs : List ℕ) → length (run s at bs).items ≤ length bs
unfolding run
run_length s at [] = omega arith
run_length s at (b ∷ bs) = go (λ t. run_length t (suc at) bs) (byte_effect s b) refl
  where
    go : ((t : State) → length (run t (suc at) bs).items ≤ length bs) → (e : Step) → byte_effect s b ≡ e → length (run s at (b ∷ bs)).items ≤ suc (length bs)
    go later (Ok (Moved t)) q = rw (q, run) (omega (arith, later t))
    go later (Ok (Flashed c)) q = rw (q, run) (omega (arith, later s))
    go later (Ok (PageEnded t)) q = rw (q, run) (omega (arith, later t))
    go later (Err n) q = rw (q, run) (omega arith)

-- ---- the state reached, or the refusal

pub fault_never : {r : Refusal} {t : State} {X : Type 0} → Err r ≡ Ok t → X
fault_never e = absurd (suc-ne-zero 0 cc)

pub run_machine : (s : State) (at : ℕ) (bs : List ℕ) {t : State} → (run s at bs).ending ≡ Ok t → t.machine ≡ s.machine
unfolding run
run_machine s at [] {t} e = let same : s ≡ t = cc in ap (λ (u : State). u.machine) (sym same)
run_machine s at (b ∷ bs) {t} e = go (λ u. run_machine u (suc at) bs) (byte_effect s b) refl
  where
    go : ((u : State) → (run u (suc at) bs).ending ≡ Ok t → t.machine ≡ u.machine) → (x : Step) → byte_effect s b ≡ x → t.machine ≡ s.machine
    go later (Ok (Moved u)) q = later u (rw (q, run) at e) ∙ moved_machine s b q
    go later (Ok (Flashed c)) q = later s (rw (q, run) at e)
    go later (Ok (PageEnded u)) q = later u (rw (q, run) at e) ∙ page_ended_machine s b q
    go later (Err n) q = let f : Err (record { reason = n; place = at }) ≡ Ok t = rw (q, run) at e in fault_never f

-- ---- an effect that sets an item and leaves a state

pub data Sets (s : State) : Step → Item → State → Type 0 where
  flashed : {c : Character} → Sets s (Ok (Flashed c)) (Placed c) s
  page_ended : {t : State} → Sets s (Ok (PageEnded t)) Cut t

-- ---- a prefix of i bytes that reaches the state s, and the byte after it

module _ (s₀ : State) (at : ℕ) (tape : List ℕ) (i : ℕ) where
  -- what the prefix sets
  abbrev pub so_far : List Item
  so_far = (run s₀ at (take i tape)).items

  module _ (s : State) (ran : (run s₀ at (take i tape)).ending ≡ Ok s) where
    follow : (ys : List ℕ) → i ≤ length tape → run s₀ at (take i tape ++ ys) ≡ go_on so_far (Ok s) (λ t. run t (at + i) ys)
    follow ys h =
        run_append s₀ at (take i tape) ys
        ∙ (λ j. go_on so_far (ran j) (λ t. run t (at + length-take-le i tape h j) ys))

    pub run_rest : i ≤ length tape → run s₀ at tape ≡ go_on so_far (Ok s) (λ t. run t (at + i) (drop i tape))
    run_rest h = ap (run s₀ at) (sym (take-append-drop i tape)) ∙ follow (drop i tape) h

    module _ (h : i < length tape) where
      next : run s₀ at (take (i + 1) tape) ≡ go_on so_far (Ok s) (λ t. run t (at + i) (get_or tape i 0 ∷ []))
      next = ap (λ (k : ℕ). run s₀ at (take k tape)) (add-one i) ∙ ap (run s₀ at) (take-suc tape i 0 h) ∙ follow (get_or tape i 0 ∷ []) (omega arith)

      pub run_moved : {t : State} → byte_effect s (get_or tape i 0) ≡ Ok (Moved t) → run s₀ at (take (i + 1) tape) ≡ record { items = so_far; ending = Ok t }
      unfolding run
      run_moved {t} e = next ∙ rw (e, run) (λ j. record { items = append-nil so_far j; ending = Ok t })

      pub run_set : {e : Step} {x : Item} {t : State} → byte_effect s (get_or tape i 0) ≡ e → Sets s e x t → run s₀ at (take (i + 1) tape) ≡ record { items = so_far ++ (x ∷ []); ending = Ok t }
      unfolding run
      run_set e flashed = next ∙ rw (e, run)
      run_set e page_ended = next ∙ rw (e, run)

      pub run_refused : {r : Reason} → byte_effect s (get_or tape i 0) ≡ Err r → run s₀ at tape ≡ record { items = so_far; ending = Err (record { reason = r; place = at + i }) }
      unfolding run
      run_refused {r} e =
          run_rest (omega arith)
          ∙ rw (drop-cons tape i 0 h, e, run) (λ j. record { items = append-nil so_far j; ending = Err (record { reason = r; place = at + i }) })

      rest_set : {e : Step} {x : Item} {t : State} → byte_effect s (get_or tape i 0) ≡ e → Sets s e x t
          → (run s (at + i) (drop i tape)).items ≡ x ∷ (run t (suc (at + i)) (drop (suc i) tape)).items
      unfolding run
      rest_set e flashed = rw (drop-cons tape i 0 h, e, run)
      rest_set e page_ended = rw (drop-cons tape i 0 h, e, run)

      -- an item more is one of those of the whole tape
      pub run_room : {e : Step} {x : Item} {t : State} → byte_effect s (get_or tape i 0) ≡ e → Sets s e x t
          → (more : List Item) × ((run s₀ at tape).items ≡ so_far ++ (x ∷ more))
      run_room {x = x} {t = t} e q =
          ((run t (suc (at + i)) (drop (suc i) tape)).items, ap (λ (r : Run). r.items) (run_rest (omega arith)) ∙ ap (λ (l : List Item). so_far ++ l) (rest_set e q))

-- ---- what a run from a sound state sets

pub run_valid : (s : State) (at : ℕ) (bs : List ℕ) → Sound s → AllValid height_end (run s at bs).items
unfolding run
run_valid s at [] r = nil
run_valid s at (b ∷ bs) r = go (λ t q. run_valid t (suc at) bs q) (byte_effect s b) refl
  where
    go : ((t : State) → Sound t → AllValid height_end (run t (suc at) bs).items) → (e : Step) → byte_effect s b ≡ e → AllValid height_end (run s at (b ∷ bs)).items
    go later (Ok (Moved t)) q = rw (q, run) (later t (stays_sound s r b q))
    go later (Ok (Flashed c)) q = rw (q, run) (more (flashed_valid s r b q) (later s r))
    go later (Ok (PageEnded t)) q = rw (q, run) (more refl (later t (page_ended_sound s r b q)))
    go later (Err n) q = rw (q, run) nil

-- ---- how a run ends

pub run_sound : (s : State) (at : ℕ) (bs : List ℕ) → Sound s → {t : State} → (run s at bs).ending ≡ Ok t → Sound t
unfolding run
run_sound s at [] r {t} e = let q : s ≡ t = cc in subst Sound q r
run_sound s at (b ∷ bs) r {t} h = go (λ u q. run_sound u (suc at) bs q {t = t}) (byte_effect s b) refl h
  where
    go : ((u : State) → Sound u → (run u (suc at) bs).ending ≡ Ok t → Sound t) → (e : Step) → byte_effect s b ≡ e → (run s at (b ∷ bs)).ending ≡ Ok t → Sound t
    go later (Ok (Moved u)) q = rw (q, run) (later u (stays_sound s r b q))
    go later (Ok (Flashed c)) q = rw (q, run) (later s r)
    go later (Ok (PageEnded u)) q = rw (q, run) (later u (page_ended_sound s r b q))
    go later (Err n) q = rw (q, run) (λ e. fault_never e)

abbrev pub FaultIn : Ending → Type 0
FaultIn (Ok t) = Unit {0}
FaultIn (Err r) = IsFault (number_in r.reason)

pub run_fault : (s : State) (at : ℕ) (bs : List ℕ) → FaultIn (run s at bs).ending
unfolding run
run_fault s at [] = tt
run_fault s at (b ∷ bs) = go (λ t. run_fault t (suc at) bs) (byte_effect s b) refl
  where
    go : ((t : State) → FaultIn (run t (suc at) bs).ending) → (e : Step) → byte_effect s b ≡ e → FaultIn (run s at (b ∷ bs)).ending
    go later (Ok (Moved t)) q = rw (q, run) (later t)
    go later (Ok (Flashed c)) q = rw (q, run) (later s)
    go later (Ok (PageEnded t)) q = rw (q, run) (later t)
    go later (Err n) q = rw (q, run) (fault_effect s b q)
