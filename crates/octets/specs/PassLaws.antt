-- An operation by two passes: what the first one finds, and the room, decide what the call gives.
--     passed_refused     what a pass gives of a result that is a refusal: it does not write
--     decided_is         what is decided is the outcome of the result for that room
--     pass_refused       a call that the first pass decides to refuse
--     pass_roomy         room enough for the second pass, where it is decided to accept
--     pass_whole, pass_second     what the second pass wrote, given what was decided or what it found
-- Assumes nothing.
use Rattle.std.specs.Prelude.{◌≡◌, Bool, List, ℕ, length, Result as ResultOf, Ok, Err}
use Rattle.std.proofs.Math.Path.{refl}
use Rattle.std.proofs.Common.{sym, ap, subst, ◌∙◌, suc-ne-zero, arith}
use Rattle.std.proofs.Math.Bool.{true, false, cond}
use borrow.Author.Tests.{ltb-false}
use Rattle.std.proofs.Math.Dec.{ltb}
use Rattle.std.proofs.lemmas.List.Edits.{sets}
use Rattle.octets.specs.Answer.{Outcome, accepted, refused, number_in, Result, refusal, written, outcome, outcome_of, buffer_after, if_room, Gives}
use Rattle.octets.specs.AnswerLaws.{gives}
use Rattle.octets.specs.Write.{sets_start, put_if}
use Rattle.octets.specs.Pass.{bytes_of, Roomy, Passed, decided}
use Rattle.octets.specs.declared.refusal.Refusal.{Refusal}

-- a refusal has no room
pub refused_roomy : {x : Result} {k i room : ℕ} → x ≡ refusal k i → Roomy x room → ⊥
refused_roomy {x} {k} {i} e h =
    let f : refusal k i ≡ written (bytes_of x) = sym e ∙ h.accepted in
    let d : ◌≡◌ {A = ℕ} 0 1 = cc in
    omega arith

pub passed_refused : {x : Result} {w : Bool} {before later : List ℕ} {r : Refusal} {room : ℕ} → x ≡ refusal (number_in r.reason) r.place → (w ≡ true → Roomy x room)
    → (w ≡ false → later ≡ before) → Passed x w before (Err r) later
passed_refused {x} {w} {before} {later} {r} {room} e h g = record { found = ap outcome (sym e); buffer = go w h g }
  where
    go : (v : Bool) → (v ≡ true → Roomy x room) → (v ≡ false → later ≡ before) → later ≡ put_if v before 0 (bytes_of x)
    go true h g = absurd (refused_roomy e (h refl))
    go false h g = g refl

-- ---- what is decided

module _ (number room : ℕ) where
  pub decided_is : (x : Result) → decided number room (outcome x) ≡ outcome (if_room number room x)
  unfolding decided if_room
  decided_is (refusal k i) = refl
  decided_is (written bs) = go (ltb room (length bs))
    where
      go : (t : Bool) → cond t (refused number (length bs)) (accepted (length bs)) ≡ outcome (cond t (refusal number (length bs)) (written bs))
      go true = refl
      go false = refl

  -- what is accepted has room, and is given as it is
  room_accepted : {n : ℕ} (x : Result) → accepted n ≡ outcome (if_room number room x) → Roomy x room × (if_room number room x ≡ x)
  unfolding if_room
  room_accepted (refusal k i) e = absurd (suc-ne-zero 0 cc)
  room_accepted {n} (written bs) e = go (ltb room (length bs)) refl e
    where
      go : (t : Bool) → ltb room (length bs) ≡ t → accepted n ≡ outcome (cond t (refusal number (length bs)) (written bs))
          → Roomy (written bs) room × (cond t (refusal number (length bs)) (written bs) ≡ written bs)
      go true q h = absurd (suc-ne-zero 0 cc)
      go false q h = (record { accepted = refl; enough = ltb-false room (length bs) q }, refl)

-- a refusal leaves the buffer
after_refused : {k i : ℕ} {buffer : List ℕ} (x : Result) → refused k i ≡ outcome x → buffer ≡ buffer_after buffer x
after_refused (refusal n at) e = refl
after_refused (written bs) e = absurd (suc-ne-zero 0 cc)

-- ---- what is given

-- the first pass found r of the result x, which the call gives where there is room; a is decided
module _ (number : ℕ) (a : ResultOf ℕ Refusal) {x : Result} {r : ResultOf ℕ Refusal} {buffer later : List ℕ} (p : Passed x false buffer r later)
    (d : outcome_of a ≡ decided number (length later) (outcome_of r)) where
  decides : outcome_of a ≡ outcome (if_room number (length buffer) x)
  decides = d ∙ (λ i. decided number (length (p.buffer i)) (p.found i)) ∙ decided_is number (length buffer) x

  accepts : {n : ℕ} → a ≡ Ok n → Roomy x (length buffer) × (if_room number (length buffer) x ≡ x)
  accepts e = room_accepted number (length buffer) x (sym (ap outcome_of e) ∙ decides)

  pub pass_roomy : {n : ℕ} → a ≡ Ok n → Roomy x (length later)
  pass_roomy e = let h = (accepts e).0 in record { accepted = h.accepted; enough = omega (arith, h.enough, ap length p.buffer) }

  -- the buffer after the second pass is the result's
  whole_buffer : {n : ℕ} {s : ResultOf ℕ Refusal} {last : List ℕ} → a ≡ Ok n → Passed x true later s last → last ≡ buffer_after buffer (if_room number (length buffer) x)
  whole_buffer e v =
      let h = accepts e in
      v.buffer
      ∙ ap (λ (l : List ℕ). sets l 0 (bytes_of x)) p.buffer
      ∙ sets_start buffer (bytes_of x) h.0.enough
      ∙ sym (ap (buffer_after buffer) (h.1 ∙ h.0.accepted))

  module _ {result : ℕ → Result} (q : result (length buffer) ≡ if_room number (length buffer) x) where
    pub pass_refused : {q' : Refusal} → a ≡ Err q' → Gives (outcome_of a) result buffer later
    pass_refused e = gives q decides (p.buffer ∙ after_refused (if_room number (length buffer) x) (sym (ap outcome_of e) ∙ decides))

    pub pass_whole : {n : ℕ} {s : ResultOf ℕ Refusal} {last : List ℕ} → a ≡ Ok n → Passed x true later s last → Gives (outcome_of a) result buffer last
    pass_whole e v = gives q decides (whole_buffer e v)

    -- and what the second pass found is what was decided
    pub pass_second : {n : ℕ} {s : ResultOf ℕ Refusal} {last : List ℕ} → a ≡ Ok n → Passed x true later s last → Gives (outcome_of s) result buffer last
    pass_second {n} {s} {last} e v = subst (λ (o : Outcome). Gives o result buffer last) (decides ∙ ap outcome (accepts e).1 ∙ sym v.found) (pass_whole e v)
