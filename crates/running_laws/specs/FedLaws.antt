-- One piece more: after an accepted start and some bytes, in any pieces, a running tape is where the tape's run over these bytes is.
--     Stands            the running tape so, open (`going_at`) or refused for good
--     fresh_stands      after the start
--     stands_open       it is open where the run reaches a state, and going_sound sound
--     fault_stays       a fault of the run over more
--     on_ends, grows    the run over one piece more, and the running tape after it
--     fed               what a piece with room does (`Fed`)
--     limit             what a piece past the limit gives
-- Assumes nothing.
use Rattle.std.specs.Prelude.{◌≡◌, true, List, [], ◌++◌, ℕ, ◌+◌, ◌≤◌, ◌<◌, length}
use Rattle.std.proofs.Math.Path.{refl}
use Rattle.std.proofs.Common.{sym, ap, subst, ◌∙◌, zero-add, suc-ne-zero, arith, length-append}
use Rattle.std.specs.Prelude.{Ok, Err}
use Rattle.octets.specs.declared.refusal.Refusal.{Refusal}
use Rattle.octets.specs.Answer.{number_in}
use Rattle.octets.specs.Answer.{Result, written, tape_too_long}
use Rattle.octets.specs.Pass.{bytes_of}
use Rattle.galley_file.specs.declared.form.Form.TheVariants.{New}
use Rattle.galley_file.specs.declared.item.Item.{Item}
use Rattle.galley_file.specs.Item.{characters_of}
use Rattle.galley_file.specs.ItemLaws.{all_counted, characters_append}
use Rattle.galley_file.specs.Galley.{fields}
use Rattle.galley_file.specs.GalleyLaws.{fields_append}
use Rattle.extents.specs.Extents.{with_characters, extents_of}
use Rattle.extents.proofs.ExtentsLaws.{extents_append}
use Rattle.typesetter.specs.declared.code.Machine.{Machine}
use Rattle.typesetter.specs.declared.machine.State.{State}
use Rattle.typesetter.specs.Machine.{start}
use Rattle.typesetter.specs.SoundLaws.{start_sound}
use Rattle.tape.specs.Tape.{Ending, max_tape, Run, run}
use Rattle.tape.specs.RunLaws.{go_on, run_append, run_length, run_sound}
use Rattle.tape.specs.TapeLaws.{items_on}
use Rattle.running.specs.declared.Phase.TheVariants.{Open, Failed}
use Rattle.running.specs.declared.Running.{Running}
use Rattle.running.specs.Running.{Replied, failing, is_sound, fresh, grown, feed_within, feed_of}
use Rattle.running.specs.RunningLaws.{tape_sound, feed_phase, feed_long, feed_fits, piece_fault, piece_whole}
use Rattle.running_laws.specs.Calls.{RoomFor}

pub never : {t : State} {q : Refusal} {X : Type 0} → ◌≡◌ {A = Ending} (Err q) (Ok t) → X
never e = absurd (suc-ne-zero 0 cc)

module _ (kind : Machine) where
  abbrev ends : List ℕ → Ending
  ends xs = (run (start kind) 0 xs).ending

  -- open, after the bytes xs, at the state t
  abbrev pub going_at : List ℕ → State → Running
  going_at xs t = record { phase = Open; state = t; total = length xs; count = length (characters_of (items_on kind xs)); extents = extents_of (characters_of (items_on kind xs)) }

  pub data Stands : Running → List ℕ → Type 0 where
    going : {xs : List ℕ} {t : State} → (run (start kind) 0 xs).ending ≡ Ok t → length xs ≤ max_tape → Stands (going_at xs t) xs
    broken : {r : Running} {xs : List ℕ} {q : Refusal} → r.phase ≡ Failed (number_in q.reason) q.place → (run (start kind) 0 xs).ending ≡ Err q → Stands r xs

  -- ---- one piece more

  -- a fault stays
  pub fault_stays : (xs p : List ℕ) {q : Refusal} → ends xs ≡ Err q → ends (xs ++ p) ≡ Err q
  fault_stays xs p h =
      ap (λ (x : Run). x.ending) (run_append (start kind) 0 xs p) ∙ ap (λ (x : Ending). (go_on (items_on kind xs) x (λ u. run u (0 + length xs) p)).ending) h

  module _ (xs : List ℕ) (t : State) (e : ends xs ≡ Ok t) (p : List ℕ) where
    -- what the piece sets
    abbrev set : List Item
    set = (run t (length xs) p).items

    on_run : run (start kind) 0 (xs ++ p) ≡ go_on (items_on kind xs) (Ok t) (λ u. run u (length xs) p)
    on_run = run_append (start kind) 0 xs p ∙ (λ j. go_on (items_on kind xs) (e j) (λ u. run u (zero-add (length xs) j) p))

    pub on_ends : ends (xs ++ p) ≡ (run t (length xs) p).ending
    on_ends = ap (λ (x : Run). x.ending) on_run

    on_items : items_on kind (xs ++ p) ≡ items_on kind xs ++ set
    on_items = ap (λ (x : Run). x.items) on_run

    on_characters : characters_of (items_on kind (xs ++ p)) ≡ characters_of (items_on kind xs) ++ characters_of set
    on_characters = ap characters_of on_items ∙ characters_append (items_on kind xs) set

    on_fields : fields New (items_on kind (xs ++ p)) ≡ fields New (items_on kind xs) ++ fields New set
    on_fields = ap (fields New) on_items ∙ fields_append New (items_on kind xs) set

    pub grows : (u : State) → grown (going_at xs t) u (length p) set ≡ going_at (xs ++ p) u
    grows u =
        let cs = characters_of (items_on kind xs) in
        let n = length-append xs p in
        let c = ap length on_characters ∙ length-append cs (characters_of set) in
        let x = ap extents_of on_characters ∙ extents_append cs (characters_of set) in
        sym (λ j. record { phase = Open; state = u; total = n j; count = c j; extents = x j })

  module _ (xs : List ℕ) (t : State) (e : ends xs ≡ Ok t) (short : length xs ≤ max_tape) where
    pub going_sound : is_sound (going_at xs t) ≡ true
    going_sound =
        tape_sound (going_at xs t)
        (record {
          short = short;
          few = omega (arith, all_counted (items_on kind xs), run_length (start kind) 0 xs);
          state_sound = run_sound (start kind) 0 xs (start_sound kind) e;
        })

    module _ (p : List ℕ) (room : ℕ) where
      pub limit : max_tape < length (xs ++ p) → feed_of (going_at xs t) p room ≡ failing (going_at xs t) tape_too_long 0
      limit h = feed_phase (going_at xs t) p room refl ∙ feed_long (going_at xs t) p room going_sound (omega (arith, length-append xs p))

      feeds : length (xs ++ p) ≤ max_tape → feed_of (going_at xs t) p room ≡ feed_within (going_at xs t) p room
      feeds h = feed_phase (going_at xs t) p room refl ∙ feed_fits (going_at xs t) p room going_sound (omega (arith, length-append xs p))

  -- ---- what a piece does

  pub record Fed (xs p : List ℕ) (x : Replied) : Type 0 where
    pub stands : Stands x.tape (xs ++ p)
    pub out : {u : State} → (run (start kind) 0 (xs ++ p)).ending ≡ Ok u
        → fields New (items_on kind xs) ++ bytes_of x.result ≡ fields New (items_on kind (xs ++ p))

  fed_fault : {r : Running} (xs p : List ℕ) {q : Refusal} {x : Result} → r.phase ≡ Failed (number_in q.reason) q.place → ends (xs ++ p) ≡ Err q
      → Fed xs p (record { tape = r; result = x })
  fed_fault xs p e q = record { stands = broken e q; out = λ u. never (sym q ∙ u) }

  fed_going : (xs : List ℕ) (t : State) → ends xs ≡ Ok t → length xs ≤ max_tape → (p : List ℕ) (room : ℕ) → length (xs ++ p) ≤ max_tape
      → RoomFor kind xs p room → Fed xs p (feed_of (going_at xs t) p room)
  fed_going xs t e short p room fits roomy = go (run t (length xs) p).ending refl
    where
      is : List Item
      is = (run t (length xs) p).items

      enough : {v : State} → (run t (length xs) p).ending ≡ Ok v → length (fields New is) ≤ room
      enough {v} q =
          omega (arith, roomy v (on_ends xs t e p ∙ q), ap length (on_fields xs t e p), length-append (fields New (items_on kind xs)) (fields New (run t (length xs) p).items))

      go : (x : Ending) → (run t (length xs) p).ending ≡ x → Fed xs p (feed_of (going_at xs t) p room)
      go (Err f) q =
          let g : feed_of (going_at xs t) p room ≡ failing (going_at xs t) (number_in f.reason) f.place = feeds xs t e short p room fits ∙ piece_fault (going_at xs t) (length p) is room q in
          subst (Fed xs p) (sym g) (fed_fault xs p refl (on_ends xs t e p ∙ q))
      go (Ok v) q =
          let g : feed_of (going_at xs t) p room ≡ record { tape = going_at (xs ++ p) v; result = written (fields New is) } =
          feeds xs t e short p room fits
          ∙ piece_whole (going_at xs t) (length p) is room q (enough q)
          ∙ ap (λ (r : Running). record { tape = r; result = written (fields New is) }) (grows xs t e p v) in
          subst (Fed xs p) (sym g) (record { stands = going (on_ends xs t e p ∙ q) fits; out = λ u. sym (on_fields xs t e p) })

  pub fed : {r : Running} {xs : List ℕ} → Stands r xs → (p : List ℕ) (room : ℕ) → length (xs ++ p) ≤ max_tape
      → RoomFor kind xs p room → Fed xs p (feed_of r p room)
  fed (going {xs} {t} e short) p room fits roomy = fed_going xs t e short p room fits roomy
  fed (broken {r} {xs} e h) p room fits roomy = subst (Fed xs p) (sym (feed_phase r p room e)) (fed_fault xs p e (fault_stays xs p h))

  -- ---- after an accepted start

  pub fresh_stands : Stands (fresh kind) []
  unfolding run characters_of extents_of with_characters
  fresh_stands = going {xs = []} {t = start kind} refl (omega arith)

  pub stands_open : {r : Running} {xs : List ℕ} → Stands r xs → {t : State} → (run (start kind) 0 xs).ending ≡ Ok t → r ≡ going_at xs t
  stands_open (going {xs} {t = u} e short) {t} h = let q : u ≡ t = (let w : ◌≡◌ {A = Ending} (Ok u) (Ok t) = sym e ∙ h in cc) in ap (going_at xs) q
  stands_open (broken e h) k = never (sym h ∙ k)
