-- The laws of calls one after another.
--     room_keeps      a piece or closing refused for room leaves the running tape as it was
--     without_room_lem    calls give what they give without those that were refused for room
--     repeats         any other refusal of a piece or closing is given again by each later one, until a start
--     refused_keeps   a refusal changes no lent byte
-- Each is of every running tape, whoever made it.
-- Assumes nothing.
use Rattle.std.specs.Prelude.{◌≡◌, Bool, true, false, cond, List, [], ◌∷◌, ◌++◌, ℕ, ◌+◌, ◌≤◌, ltb}
use Rattle.std.proofs.Math.Path.{refl}
use Rattle.std.proofs.Common.{sym, ap, subst, ◌∙◌, suc-ne-zero, arith, eqb-true}
use Rattle.std.proofs.Math.ListN.{length}
use Rattle.std.specs.Prelude.{Ok, Err, Result as ResultOf}
use Rattle.octets.specs.declared.refusal.Reason.{Reason}
use Rattle.octets.specs.Answer.{Result, refusal, written, buffer_after, no_galley_room, not_started}
use Rattle.octets.specs.Field.{end_field}
use Rattle.measure.specs.Place.{height_end}
use Rattle.octets.specs.Pass.{bytes_of}
use Rattle.octets.specs.Transducer.{transduced}
use Rattle.galley_file.specs.declared.form.Form.TheVariants.{New}
use Rattle.galley_file.specs.declared.item.Item.{Item}
use Rattle.galley_file.specs.Galley.{AllValid, fields}
use Rattle.typesetter.specs.declared.code.Machine.{Machine}
use Rattle.typesetter.specs.declared.machine.State.{State}
use Rattle.typesetter.specs.Code.{machine_of}
use Rattle.tape.specs.Tape.{Ending, max_tape, run}
use Rattle.tape.specs.RunLaws.{run_valid, FaultIn, run_fault}
use Rattle.running.specs.declared.Phase.{Phase}
use Rattle.running.specs.declared.Phase.TheVariants.{AtRest, Open, Failed}
use Rattle.running.specs.declared.Running.{Running}
use Rattle.running.specs.Running.{Replied, refusing, failing, is_sound, in_phase, start_on, start_of, grown, piece_ends, feed_within, feed_open, feed_of, at_rest_of, close_open, close_of}
use Rattle.running.specs.RunningLaws.{sound_tape, feed_unsound, close_unsound}
use Rattle.running_laws.specs.Calls.{Call, starting, piece, closing, given, tape_after, results, output, is_room, without_room, without_rooms}

-- ---- what a piece or the close can give

-- a piece or the close
pub data Later : Call → Type 0 where
  a_piece : {bs : List ℕ} {room : ℕ} → Later (piece bs room)
  a_close : {room : ℕ} → Later (closing room)

-- a running tape that refuses every piece and closing, with this number and place
pub data Stuck (r : Running) : ℕ → ℕ → Type 0 where
  failed_at : {n place : ℕ} → r.phase ≡ Failed n place → Stuck r n place
  resting : r.phase ≡ AtRest → Stuck r not_started 0
  unsound : r.phase ≡ Open → is_sound r ≡ false → Stuck r not_started 0

-- refused for room; refused by a tape that is stuck; refused, and the refusal is kept; the fields of a piece; or End
pub data Kind (r : Running) : Replied → Type 0 where
  roomless : {place : ℕ} → Kind r (refusing r no_galley_room place)
  still : {n place : ℕ} → Stuck r n place → Kind r (refusing r n place)
  keeps : {n place : ℕ} → n ≤ 10 → Kind r (failing r n place)
  adds : (t : State) (n : ℕ) (is : List Item) → AllValid height_end is → Kind r (record { tape = grown r t n is; result = written (fields New is) })
  finishes : Kind r (record { tape = at_rest_of r; result = written (end_field r.count) })

kind_cond : (t : Bool) {r : Running} (x y : Replied) → (t ≡ true → Kind r x) → (t ≡ false → Kind r y) → Kind r (cond t x y)
kind_cond true x y p q = p refl
kind_cond false x y p q = q refl

module _ (r : Running) where
  kind_ends : (n : ℕ) (is : List Item) (e : Ending) (room : ℕ) → AllValid height_end is → FaultIn e → Kind r (piece_ends r n is e room)
  kind_ends n is (Ok t) room v s = kind_cond (ltb room (length (fields New is))) _ _ (λ _. roomless) (λ _. adds t n is v)
  kind_ends n is (Err f) room v s = keeps s.1

  kind_within : (bs : List ℕ) (room : ℕ) → is_sound r ≡ true → Kind r (feed_within r bs room)
  kind_within bs room s =
      kind_ends (length bs) (run r.state r.total bs).items (run r.state r.total bs).ending room
      (run_valid r.state r.total bs (sound_tape r s).state_sound) (run_fault r.state r.total bs)

  module _ (open_is : r.phase ≡ Open) where
    kind_feed_open : (bs : List ℕ) (room : ℕ) → Kind r (feed_open r bs room)
    unfolding feed_open
    kind_feed_open bs room =
        kind_cond (is_sound r) _ _
        (λ s. kind_cond (ltb max_tape (r.total + length bs)) _ _ (λ _. keeps (omega arith)) (λ _. kind_within bs room s))
        (λ u. still (unsound open_is u))

    kind_close_open : (room : ℕ) → Kind r (close_open r room)
    unfolding close_open
    kind_close_open room =
        kind_cond (is_sound r) _ _
        (λ _. kind_cond r.state.cut _ _ (λ _. keeps (omega arith))
        (λ _. kind_cond r.state.stopped _ _ (λ _. kind_cond (ltb room (length (end_field r.count))) _ _ (λ _. roomless) (λ _. finishes)) (λ _. keeps (omega arith))))
        (λ u. still (unsound open_is u))

  kind_phase : (p : Phase) → r.phase ≡ p → (x : Replied) → (r.phase ≡ Open → Kind r x) → Kind r (in_phase r p x)
  kind_phase AtRest e x k = still (resting e)
  kind_phase (Failed n place) e x k = still (failed_at e)
  kind_phase Open e x k = k e

  pub kind_of : {c : Call} → Later c → Kind r (given r c)
  unfolding feed_of close_of
  kind_of (a_piece {bs} {room}) = kind_phase r.phase refl (feed_open r bs room) (λ e. kind_feed_open e bs room)
  kind_of (a_close {room}) = kind_phase r.phase refl (close_open r room) (λ e. kind_close_open e room)

-- ---- room

no_room : {X : Type 0} → false ≡ true → X
no_room e = absurd (suc-ne-zero 0 cc)

room_kind : {r : Running} {x : Replied} → Kind r x → is_room x.result ≡ true → x.tape ≡ r
room_kind roomless e = refl
room_kind (still q) e = refl
room_kind (keeps {n} {place} h) e = absurd (omega (arith, h, eqb-true n 12 e))
room_kind (adds t n is v) e = no_room e
room_kind finishes e = no_room e

room_start : (r : Running) (k : ResultOf Machine Reason) → is_room (start_on r k).result ≡ true → (start_on r k).tape ≡ r
room_start r (Ok machine) e = no_room e
room_start r (Err reason) e = refl

pub room_keeps : (r : Running) (c : Call) → is_room (given r c).result ≡ true → (given r c).tape ≡ r
unfolding start_of
room_keeps r (starting machine) e = room_start r (machine_of machine) e
room_keeps r (piece bs room) e = room_kind (kind_of r (a_piece {bs = bs} {room = room})) e
room_keeps r (closing room) e = room_kind (kind_of r (a_close {room = room})) e

pub record Without (r : Running) (cs : List Call) : Type 0 where
  pub tape_is : tape_after r (without_room r cs) ≡ tape_after r cs
  pub output_is : output r (without_room r cs) ≡ output r cs
  pub results_are : results r (without_room r cs) ≡ without_rooms (results r cs)

room_writes : (x : Result) → is_room x ≡ true → bytes_of x ≡ []
room_writes (refusal n place) e = refl
room_writes (written bs) e = no_room e

pub without_room_lem : (r : Running) (cs : List Call) → Without r cs
unfolding transduced results without_room without_rooms
without_room_lem r [] = record { tape_is = refl; output_is = refl; results_are = refl }
without_room_lem r (c ∷ cs) = go (is_room (given r c).result) refl (without_room_lem (given r c).tape cs)
  where
    next : Running
    next = (given r c).tape

    chosen : Bool → List Call
    chosen t = cond t (without_room next cs) (c ∷ without_room next cs)

    left : Bool → List Result
    left t = cond t (without_rooms (results next cs)) ((given r c).result ∷ without_rooms (results next cs))

    go : (t : Bool) → is_room (given r c).result ≡ t → Without next cs → Without r (c ∷ cs)
    go true e w =
        let k : next ≡ r = room_keeps r c e in
        let q : without_room r (c ∷ cs) ≡ without_room next cs = ap chosen e in
        record {
          tape_is = ap (tape_after r) q ∙ ap (λ (s : Running). tape_after s (without_room next cs)) (sym k) ∙ w.tape_is;
          output_is =
              ap (output r) q
              ∙ ap (λ (s : Running). output s (without_room next cs)) (sym k)
              ∙ w.output_is
              ∙ sym (ap (λ (bs : List ℕ). bs ++ output next cs) (room_writes (given r c).result e));
          results_are = ap (results r) q ∙ ap (λ (s : Running). results s (without_room next cs)) (sym k) ∙ w.results_are ∙ sym (ap left e);
        }
    go false e w =
        let q : without_room r (c ∷ cs) ≡ c ∷ without_room next cs = ap chosen e in
        record {
          tape_is = ap (tape_after r) q ∙ w.tape_is;
          output_is = ap (output r) q ∙ ap (λ (bs : List ℕ). bytes_of (given r c).result ++ bs) w.output_is;
          results_are = ap (results r) q ∙ ap (λ (xs : List Result). (given r c).result ∷ xs) w.results_are ∙ sym (ap left e);
        }

-- ---- the repeated refusal

stuck_phase : {r : Running} {n place : ℕ} (p : Phase) (x : Replied) → Stuck r n place → r.phase ≡ p
    → (is_sound r ≡ false → x ≡ refusing r not_started 0) → in_phase r p x ≡ refusing r n place
stuck_phase {r} {n} {place} p x (failed_at e) q u = ap (λ (f : Phase). in_phase r f x) (sym q ∙ e)
stuck_phase {r} p x (resting e) q u = ap (λ (f : Phase). in_phase r f x) (sym q ∙ e)
stuck_phase {r} p x (unsound e s) q u = ap (λ (f : Phase). in_phase r f x) (sym q ∙ e) ∙ u s

-- one that is stuck refuses so, and stays as it is
pub stuck_gives : {r : Running} {n place : ℕ} → Stuck r n place → {c : Call} → Later c → given r c ≡ refusing r n place
unfolding feed_of close_of
stuck_gives {r} s (a_piece {bs} {room}) = stuck_phase r.phase (feed_open r bs room) s refl (feed_unsound r bs room)
stuck_gives {r} s (a_close {room}) = stuck_phase r.phase (close_open r room) s refl (close_unsound r room)

refused_kind : {r : Running} {x : Replied} {m at : ℕ} → Kind r x → x.result ≡ refusal m at → (m ≡ no_galley_room → ⊥) → Stuck x.tape m at
refused_kind {m = m} (roomless {place}) e k = absurd (k (let z : ◌≡◌ {A = ℕ} 12 m = cc in sym z))
refused_kind {r} {m = m} {at = at} (still {n} {place} s) e k =
    let a : n ≡ m = cc in
    let b : place ≡ at = cc in
    subst (λ (p : ℕ). Stuck r m p) b (subst (λ (l : ℕ). Stuck r l place) a s)
refused_kind {r} {m = m} {at = at} (keeps {n} {place} h) e k =
    let a : n ≡ m = cc in
    let b : place ≡ at = cc in
    failed_at (λ i. Failed (a i) (b i))
refused_kind (adds t n is v) e k = absurd (suc-ne-zero 0 cc)
refused_kind finishes e k = absurd (suc-ne-zero 0 cc)

-- pieces and closings, without a start among them
pub data AllLater : List Call → Type 0 where
  done : AllLater []
  then : {c : Call} {cs : List Call} → Later c → AllLater cs → AllLater (c ∷ cs)

-- each of so many calls gives the same
unfoldable pub repeated : List Call → Result → List Result
repeated [] x = []
repeated (c ∷ cs) x = x ∷ repeated cs x

pub record Repeated (r : Running) (cs : List Call) (n place : ℕ) : Type 0 where
  pub tape_is : tape_after r cs ≡ r
  pub results_are : results r cs ≡ repeated cs (refusal n place)
  pub output_is : output r cs ≡ []

stuck_all : {r : Running} {n place : ℕ} → Stuck r n place → {cs : List Call} → AllLater cs → Repeated r cs n place
unfolding results transduced repeated
stuck_all s done = record { tape_is = refl; results_are = refl; output_is = refl }
stuck_all {r} {n} {place} s (then {c} {cs} l ls) =
    let g = stuck_gives s l in
    let k = stuck_all s ls in
    let t : (given r c).tape ≡ r = ap (λ (x : Replied). x.tape) g in
    let x : (given r c).result ≡ refusal n place = ap (λ (x : Replied). x.result) g in
    record {
      tape_is = ap (λ (q : Running). tape_after q cs) t ∙ k.tape_is;
      results_are = (λ i. x i ∷ results (t i) cs) ∙ ap (λ (xs : List Result). refusal n place ∷ xs) k.results_are;
      output_is = (λ i. bytes_of (x i) ++ output (t i) cs) ∙ k.output_is;
    }

-- "After any other refusal of a piece or closing the running tape repeats that refusal and place until started anew"
pub repeats : (r : Running) {c : Call} → Later c → {n place : ℕ} → (given r c).result ≡ refusal n place → (n ≡ no_galley_room → ⊥) → {cs : List Call}
    → AllLater cs → Repeated (given r c).tape cs n place
repeats r l e k ls = stuck_all (refused_kind (kind_of r l) e k) ls

-- "a refusal changes no lent byte"
pub refused_keeps : (r : Running) (c : Call) {n place : ℕ} → (given r c).result ≡ refusal n place → (buffer : List ℕ) → buffer_after buffer (given r c).result ≡ buffer
refused_keeps r c e buffer = ap (buffer_after buffer) e
