-- What a call gives, by what was found of the running tape and of the piece.
--     SoundTape                              what `is_sound` tests
--     feed_unsound, feed_long, feed_fits     a piece of an open running tape
--     piece_fault, piece_short, piece_whole  a piece within the limit
--     leaves, leaves_same                    what a call promises, once its reply is known
--     close_unsound, close_cut, close_unstopped, close_short, close_whole      the close of an open one
-- Assumes nothing.
use Rattle.std.specs.Prelude.{◌≡◌, refl, Bool, true, false, cond, List, ℕ, ◌+◌, ◌≤◌, ◌<◌, leb, length, Ok, Err}
use Rattle.std.proofs.Common.{sym, ◌∙◌, arith}
use Rattle.std.proofs.Math.Path.{ap}
use borrow.Author.Tests.{lt-ltb, le-ltb, le-leb, leb-true}
use Rattle.octets.specs.Answer.{Outcome, written, outcome, buffer_after, tape_too_long, after_cut, no_stop, no_galley_room, not_started, number_in}
use Rattle.octets.specs.declared.refusal.Refusal.{Refusal}
use Rattle.octets.specs.AnswerLaws.{gives}
use Rattle.octets.specs.Field.{end_field}
use Rattle.octets.specs.FieldLaws.{both, length_end}
use Rattle.measure.specs.Place.{carriage_end, height_end, within}
use Rattle.measure.specs.PlaceLaws.{within_range, range_within}
use Rattle.galley_file.specs.declared.form.Form.TheVariants.{New}
use Rattle.galley_file.specs.declared.item.Item.{Item}
use Rattle.galley_file.specs.Galley.{fields}
use Rattle.typesetter.specs.declared.machine.State.{State}
use Rattle.typesetter.specs.Sound.{Sound}
use Rattle.tape.specs.Tape.{Ending, max_tape}
use Rattle.running.specs.declared.Phase.{Phase}
use Rattle.running.specs.declared.Running.{Running}
use Rattle.running.specs.Running.{Replied, refusing, failing, putting, is_sound, in_phase, grown, piece_ends, feed_within, feed_open, feed_of, at_rest_of, close_open, close_of, Leaves}

pub record SoundTape (r : Running) : Type 0 where
  pub short : r.total ≤ max_tape
  pub few : r.count ≤ r.total
  pub state_sound : Sound r.state

pub sound_tape : (r : Running) → is_sound r ≡ true → SoundTape r
unfolding is_sound
sound_tape r e =
    let a = both _ (within height_end r.state.height.0) e in
    let b = both _ (within carriage_end r.state.carriage.0) a.0 in
    let c = both (leb r.total max_tape) (leb r.count r.total) b.0 in
    record {
      short = leb-true _ _ c.0;
      few = leb-true _ _ c.1;
      state_sound = record { carriage_in = within_range carriage_end r.state.carriage.0 b.1; height_in_lem = within_range height_end r.state.height.0 a.1 };
    }

pub tape_sound : (r : Running) → SoundTape r → is_sound r ≡ true
unfolding is_sound
tape_sound r s =
    rw (le-leb _ _ s.short, le-leb _ _ s.few, range_within carriage_end r.state.carriage.0 s.state_sound.carriage_in, range_within height_end r.state.height.0 s.state_sound.height_in_lem)

-- ---- room comes last

module _ (r next : Running) (bs : List ℕ) (room : ℕ) where
  pub put_short : room < length bs → putting r next bs room ≡ refusing r no_galley_room (length bs)
  put_short h = rw (lt-ltb _ _ h)

  pub put_whole : length bs ≤ room → putting r next bs room ≡ record { tape = next; result = written bs }
  put_whole h = rw (le-ltb _ _ h)

-- ---- a piece

module _ (r : Running) (piece : List ℕ) (room : ℕ) where
  pub feed_phase : {p : Phase} → r.phase ≡ p → feed_of r piece room ≡ in_phase r p (feed_open r piece room)
  unfolding feed_of
  feed_phase e = ap (λ (p : Phase). in_phase r p (feed_open r piece room)) e

  pub feed_unsound : is_sound r ≡ false → feed_open r piece room ≡ refusing r not_started 0
  unfolding feed_open
  feed_unsound e = rw e

  pub feed_long : is_sound r ≡ true → max_tape < r.total + length piece → feed_open r piece room ≡ failing r tape_too_long 0
  unfolding feed_open
  feed_long e h = rw (e, lt-ltb _ _ h)

  pub feed_fits : is_sound r ≡ true → r.total + length piece ≤ max_tape → feed_open r piece room ≡ feed_within r piece room
  unfolding feed_open
  feed_fits e h = rw (e, le-ltb _ _ h)

module _ (r : Running) (n : ℕ) (is : List Item) (room : ℕ) where
  pub piece_fault : {e : Ending} {q : Refusal} → e ≡ Err q → piece_ends r n is e room ≡ failing r (number_in q.reason) q.place
  piece_fault q = ap (λ (x : Ending). piece_ends r n is x room) q

  module _ {e : Ending} {t : State} (q : e ≡ Ok t) where
    pub piece_short : room < length (fields New is) → piece_ends r n is e room ≡ refusing r no_galley_room (length (fields New is))
    piece_short h = ap (λ (x : Ending). piece_ends r n is x room) q ∙ put_short r (grown r t n is) (fields New is) room h

    pub piece_whole : length (fields New is) ≤ room → piece_ends r n is e room ≡ record { tape = grown r t n is; result = written (fields New is) }
    piece_whole h = ap (λ (x : Ending). piece_ends r n is x room) q ∙ put_whole r (grown r t n is) (fields New is) room h

-- ---- the close

module _ (r : Running) (room : ℕ) where
  pub close_phase : {p : Phase} → r.phase ≡ p → close_of r room ≡ in_phase r p (close_open r room)
  unfolding close_of
  close_phase e = ap (λ (p : Phase). in_phase r p (close_open r room)) e

  pub close_unsound : is_sound r ≡ false → close_open r room ≡ refusing r not_started 0
  unfolding close_open
  close_unsound e = rw e

  module _ (e : is_sound r ≡ true) where
    abbrev ends : Bool → Bool → Replied
    ends cut stopped = cond cut (failing r after_cut r.total) (cond stopped (putting r (at_rest_of r) (end_field r.count) room) (failing r no_stop r.total))

    closes_by : {k u : Bool} → r.state.cut ≡ k → r.state.stopped ≡ u → close_open r room ≡ ends k u
    unfolding close_open
    closes_by d s = rw e (λ i. ends (d i) (s i))

    pub close_cut : r.state.cut ≡ true → close_open r room ≡ failing r after_cut r.total
    close_cut d = closes_by d refl

    module _ (d : r.state.cut ≡ false) where
      pub close_unstopped : r.state.stopped ≡ false → close_open r room ≡ failing r no_stop r.total
      close_unstopped s = closes_by d s

      pub close_short : r.state.stopped ≡ true → room < 7 → close_open r room ≡ refusing r no_galley_room 7
      close_short s h =
          let l = length_end r.count in
          closes_by d s ∙ put_short r (at_rest_of r) (end_field r.count) room (omega (arith, l)) ∙ ap (refusing r no_galley_room) l

      pub close_whole : r.state.stopped ≡ true → 7 ≤ room → close_open r room ≡ record { tape = at_rest_of r; result = written (end_field r.count) }
      close_whole s h = let l = length_end r.count in closes_by d s ∙ put_whole r (at_rest_of r) (end_field r.count) room (omega (arith, l))

-- ---- what a call promises, once its reply is known

pub leaves : {given : Outcome} {left : Running} {reply : ℕ → Replied} {buffer later : List ℕ} (x : Replied) → reply (length buffer) ≡ x
    → given ≡ outcome x.result → left ≡ x.tape → later ≡ buffer_after buffer x.result → Leaves given left reply buffer later
leaves x q o t b = record { gives = gives (ap (λ (y : Replied). y.result) q) o b; leaves = t ∙ sym (ap (λ (y : Replied). y.tape) q) }

-- what is left for one reply is left for an equal one
pub leaves_same : {given : Outcome} {left : Running} {reply other : ℕ → Replied} {buffer later : List ℕ} → reply (length buffer) ≡ other (length buffer)
    → Leaves given left other buffer later → Leaves given left reply buffer later
leaves_same {other = other} {buffer = buffer} q l = leaves (other (length buffer)) q l.gives.outcome_is l.leaves l.gives.buffer_is
