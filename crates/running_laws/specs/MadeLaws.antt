-- A running tape that these calls alone have made.
--     Status          at rest, refused for good, or open after some bytes of a tape
--     made            it has one of these
--     not_started_lem     13 is given exactly before any start and after an accepted closing
-- Assumes nothing.
use Rattle.std.specs.Prelude.{◌≡◌, Bool, true, false, cond, ◌↔◌, List, [], ◌++◌, ℕ, ◌+◌, ◌≤◌, ltb}
use Rattle.std.proofs.Math.Path.{refl}
use Rattle.std.proofs.Common.{sym, ap, subst, ◌∙◌, true≢false, arith, ltb-false}
use Rattle.std.proofs.Math.ListN.{length, length-append}
use Rattle.std.specs.Prelude.{Ok, Err, Result as ResultOf}
use Rattle.octets.specs.declared.refusal.Reason.{Reason}
use Rattle.octets.specs.Answer.{refusal, not_started}
use Rattle.octets.specs.Field.{end_field}
use Rattle.galley_file.specs.declared.form.Form.TheVariants.{New}
use Rattle.galley_file.specs.Item.{characters_of}
use Rattle.galley_file.specs.Galley.{fields}
use Rattle.extents.specs.Extents.{with_characters, extents_of}
use Rattle.typesetter.specs.declared.code.Machine.{Machine}
use Rattle.typesetter.specs.declared.machine.State.{State}
use Rattle.typesetter.specs.Machine.{start}
use Rattle.typesetter.specs.Code.{machine_of}
use Rattle.tape.specs.Tape.{Ending, max_tape, run}
use Rattle.tape.specs.RunLaws.{FaultIn, run_fault}
use Rattle.running.specs.declared.Phase.TheVariants.{AtRest, Failed}
use Rattle.running.specs.declared.Running.{Running}
use Rattle.running.specs.Running.{Replied, putting, is_sound, start_on, start_of, grown, piece_ends, feed_open, feed_of, at_rest_of, close_open, close_of}
use Rattle.running_laws.specs.Calls.{Call, starting, piece, closing, given, MadeByCalls, new, by_call}
use Rattle.running_laws.specs.CallsLaws.{Later, a_piece, a_close, Stuck, failed_at, resting, unsound, Kind, roomless, still, keeps, adds, finishes, kind_of, stuck_gives}
use Rattle.running_laws.specs.FedLaws.{going_at, going_sound, on_ends, grows}

-- at rest, refused for good, or open after some bytes
pub data Status : Running → Type 0 where
  at_rest : {r : Running} → r.phase ≡ AtRest → Status r
  refused : {r : Running} {n place : ℕ} → r.phase ≡ Failed n place → n ≤ 10 → Status r
  opened : (kind : Machine) (xs : List ℕ) (t : State) → (run (start kind) 0 xs).ending ≡ Ok t → length xs ≤ max_tape → Status (going_at kind xs t)

status_cond : (b : Bool) (x y : Replied) → (b ≡ true → Status x.tape) → (b ≡ false → Status y.tape) → Status (cond b x y).tape
status_cond true x y f g = f refl
status_cond false x y f g = g refl

status_start : {r : Running} → Status r → (k : ResultOf Machine Reason) → Status (start_on r k).tape
unfolding run characters_of extents_of with_characters
status_start s (Ok kind) = opened kind [] (start kind) refl (omega arith)
status_start s (Err reason) = s

module _ (kind : Machine) (xs : List ℕ) (t : State) (e : (run (start kind) 0 xs).ending ≡ Ok t) (short : length xs ≤ max_tape) where
  abbrev here : Running
  here = going_at kind xs t

  status_put : (next : Running) (bs : List ℕ) (room : ℕ) → Status next → Status (putting here next bs room).tape
  status_put next bs room s = status_cond (ltb room (length bs)) _ _ (λ _. opened kind xs t e short) (λ _. s)

  status_feed : (p : List ℕ) (room : ℕ) → Status (feed_of here p room).tape
  unfolding feed_of feed_open
  status_feed p room =
      status_cond (is_sound here) _ _
      (λ _. status_cond (ltb max_tape (length xs + length p)) _ _ (λ _. refused refl (omega arith)) (λ f. ends_in (ltb-false _ _ f) (run t (length xs) p).ending refl (run_fault t (length xs) p)))
      (λ _. opened kind xs t e short)
    where
      ends_in : length xs + length p ≤ max_tape → (x : Ending) → (run t (length xs) p).ending ≡ x → FaultIn x
          → Status (piece_ends here (length p) (run t (length xs) p).items x room).tape
      ends_in f (Err r) q h = refused refl h.1
      ends_in f (Ok v) q h =
          status_put (grown here v (length p) (run t (length xs) p).items) (fields New (run t (length xs) p).items) room
          (subst Status (sym (grows kind xs t e p v)) (opened kind (xs ++ p) v (on_ends kind xs t e p ∙ q) (omega (arith, length-append xs p))))

  status_close : (room : ℕ) → Status (close_of here room).tape
  unfolding close_of close_open
  status_close room =
      status_cond (is_sound here) _ _
      (λ _. status_cond t.cut _ _ (λ _. refused refl (omega arith))
      (λ _. status_cond t.stopped _ _ (λ _. status_put (at_rest_of here) (end_field here.count) room (at_rest refl)) (λ _. refused refl (omega arith))))
      (λ _. opened kind xs t e short)

-- one that is stuck stays as it is
status_stuck : {r : Running} {n place : ℕ} → Stuck r n place → Status r → {c : Call} → Later c → Status (given r c).tape
status_stuck k s l = subst (λ (x : Replied). Status x.tape) (sym (stuck_gives k l)) s

status_later : {r : Running} → Status r → {c : Call} → Later c → Status (given r c).tape
status_later (at_rest e) l = status_stuck (resting e) (at_rest e) l
status_later (refused e n) l = status_stuck (failed_at e) (refused e n) l
status_later (opened kind xs t e short) (a_piece {bs} {room}) = status_feed kind xs t e short bs room
status_later (opened kind xs t e short) (a_close {room}) = status_close kind xs t e short room

status_given : {r : Running} → Status r → (c : Call) → Status (given r c).tape
unfolding start_of
status_given s (starting machine) = status_start s (machine_of machine)
status_given s (piece bs room) = status_later s (a_piece {bs = bs} {room = room})
status_given s (closing room) = status_later s (a_close {room = room})

pub made : {r : Running} → MadeByCalls r → Status r
made new = at_rest refl
made (by_call m c) = status_given (made m) c

-- ---- 13

-- the number that one which is stuck refuses with
number_of : {r : Running} {n place m at : ℕ} → r.phase ≡ Failed n place → Stuck r m at → m ≡ n
number_of e (failed_at h) = cc
number_of e (resting h) = cc
number_of e (unsound h u) = cc

stuck_resting : {r : Running} {m at : ℕ} → Status r → Stuck r m at → m ≡ not_started → r.phase ≡ AtRest
stuck_resting (at_rest e) s q = e
stuck_resting (refused e h) s q = absurd (omega (arith, h, number_of e s, q))
stuck_resting (opened kind xs t e l) (failed_at h) q = cc
stuck_resting (opened kind xs t e l) (resting h) q = h
stuck_resting (opened kind xs t e l) (unsound h u) q = absurd (true≢false (sym (going_sound kind xs t e l) ∙ u))

resting_kind : {r : Running} {x : Replied} {at : ℕ} → Status r → Kind r x → x.result ≡ refusal not_started at → r.phase ≡ AtRest
resting_kind s roomless e = absurd (let w : ◌≡◌ {A = ℕ} 12 13 = cc in omega arith)
resting_kind s (still {n} k) e = stuck_resting s k (let w : n ≡ 13 = cc in w)
resting_kind s (keeps {n} h) e = absurd (let w : n ≡ 13 = cc in omega (arith, h, w))
resting_kind s (adds t n is v) e = cc
resting_kind s finishes e = cc

-- "13 at place 0 for a piece or closing before any start or after an accepted closing": at rest, and never else
pub not_started_lem : {r : Running} → MadeByCalls r → {c : Call} → Later c → ((given r c).result ≡ refusal not_started 0) ↔ (r.phase ≡ AtRest)
not_started_lem {r} m l = (λ e. resting_kind (made m) (kind_of r l) e, λ e. ap (λ (x : Replied). x.result) (stuck_gives (resting e) l))
