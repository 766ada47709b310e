-- Room comes last: the laws of `if_room`. What a call gives, once its result is known. A refusal that `?` hands on.
-- Assumes nothing.
use Rattle.std.specs.Prelude.{◌≡◌, Bool, true, false, cond, List, ℕ, ◌≤◌, ◌<◌, ltb, length, Result as ResultOf, Err}
use Rattle.std.specs.Result.{IsErrAnd}
use Rattle.std.proofs.lemmas.Result.{err_from_is_err_and}
use Rattle.std.proofs.Math.Path.{refl}
use Rattle.std.proofs.Common.{sym, ap, ◌∙◌, suc-ne-zero, arith, lt-ltb, le-ltb, ltb-true, ltb-false}
use Rattle.octets.specs.declared.refusal.Refusal.{Refusal}
use Rattle.octets.specs.Answer.{Outcome, outcome_of, accepted, refused, Result, refusal, written, numbers_of, outcome, buffer_after, if_room, Gives, GivesNumbers}

module _ (number room : ℕ) where
  pub room_refused : (n place : ℕ) → if_room number room (refusal n place) ≡ refusal n place
  unfolding if_room
  room_refused n place = refl

  pub room_short : (bs : List ℕ) → room < length bs → if_room number room (written bs) ≡ refusal number (length bs)
  unfolding if_room
  room_short bs h = rw (lt-ltb _ _ h)

  pub room_enough : (bs : List ℕ) → length bs ≤ room → if_room number room (written bs) ≡ written bs
  unfolding if_room
  room_enough bs h = rw (le-ltb _ _ h)

-- the length accepted, and the place of a refusal for room, are the bytes needed
pub accepted_length : (number room n : ℕ) (bs : List ℕ) → accepted n ≡ outcome (if_room number room (written bs)) → n ≡ length bs
unfolding if_room
accepted_length number room n bs = go (ltb room (length bs))
  where
    go : (t : Bool) → accepted n ≡ outcome (cond t (refusal number (length bs)) (written bs)) → n ≡ length bs
    go true h = absurd (suc-ne-zero 0 cc)
    go false h = cc

pub refused_length : (number room k place : ℕ) (bs : List ℕ) → refused k place ≡ outcome (if_room number room (written bs)) → (k ≡ number) × ((place ≡ length bs) × (room < length bs))
unfolding if_room
refused_length number room k place bs = go (ltb room (length bs)) refl
  where
    go : (t : Bool) → ltb room (length bs) ≡ t → refused k place ≡ outcome (cond t (refusal number (length bs)) (written bs)) → (k ≡ number) × ((place ≡ length bs) × (room < length bs))
    go true q h = (cc, (cc, ltb-true room (length bs) q))
    go false q h = absurd (suc-ne-zero 0 cc)

-- what is accepted has room
pub accepted_room : (number room n : ℕ) (r : Result) → accepted n ≡ outcome (if_room number room r) → n ≤ room
unfolding if_room
accepted_room number room n (refusal k place) e = absurd (suc-ne-zero 0 cc)
accepted_room number room n (written bs) e = go (ltb room (length bs)) refl e
  where
    go : (t : Bool) → ltb room (length bs) ≡ t → accepted n ≡ outcome (cond t (refusal number (length bs)) (written bs)) → n ≤ room
    go true q h = absurd (suc-ne-zero 0 cc)
    go false q h = let l : n ≡ length bs = cc in omega (arith, ltb-false room (length bs) q)

-- what is written is what was made
pub room_made : (number room : ℕ) (r : Result) (bs : List ℕ) → if_room number room r ≡ written bs → r ≡ written bs
unfolding if_room
room_made number room (refusal n p) bs e = e
room_made number room (written cs) bs e = go (ltb room (length cs)) e
  where
    go : (t : Bool) → cond t (refusal number (length cs)) (written cs) ≡ written bs → written cs ≡ written bs
    go true q = absurd (suc-ne-zero 0 cc)
    go false q = q

-- ---- what a call gives

pub gives : {result : ℕ → Result} {r : Result} {given : Outcome} {buffer later : List ℕ} → result (length buffer) ≡ r → given ≡ outcome r → later ≡ buffer_after buffer r → Gives given result buffer later
gives {buffer = buffer} q o b = record { outcome_is = o ∙ sym (ap outcome q); buffer_is = b ∙ sym (ap (buffer_after buffer) q) }

-- what is given for one result is given for an equal one
pub gives_same : {result other : ℕ → Result} {given : Outcome} {buffer later : List ℕ} → result (length buffer) ≡ other (length buffer) → Gives given other buffer later → Gives given result buffer later
gives_same q g = gives q g.outcome_is g.buffer_is

pub gives_numbers : {result : ℕ → Result} {given : Outcome} {numbers buffer later : List ℕ} → numbers ≡ numbers_of given → Gives given result buffer later → GivesNumbers numbers result buffer later
gives_numbers q g = record { numbers_are = q ∙ ap numbers_of g.outcome_is; buffer_is = g.buffer_is }

-- what is given of an answer is given of an equal one
pub gives_answer : {a b : ResultOf ℕ Refusal} {result : ℕ → Result} {buffer later : List ℕ} → a ≡ b → Gives (outcome_of b) result buffer later → Gives (outcome_of a) result buffer later
gives_answer e g = record { outcome_is = ap outcome_of e ∙ g.outcome_is; buffer_is = g.buffer_is }

-- ---- what `?` hands on

pub handed_on : {T E : Type 0} {r x : ResultOf T E} {k : E} → IsErrAnd r (λ (e : E). e ≡ k) → x ≡ Err k → r ≡ x
handed_on {r = r} h e = let p = err_from_is_err_and r h in p.1 ∙ ap Err p.2 ∙ sym e
