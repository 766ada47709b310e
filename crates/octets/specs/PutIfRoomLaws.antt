-- Bytes that are written if they have room: one run after another.
-- Assumes nothing.
use Rattle.std.specs.Prelude.{◌≡◌, refl, List, [], ◌++◌, ℕ, ◌+◌, ◌≤◌, ◌<◌, length}
use Rattle.std.proofs.Common.{sym, ap, subst, ◌∙◌, append-nil, arith, length-append, drop_of_length-le}
use Rattle.std.proofs.lemmas.List.Edits.{sets}
use Rattle.octets.specs.Write.{Wrote, length_wrote, sets_append, sets_start}
use Rattle.octets.specs.PutIfRoom.{PutIfRoom}

pub put_if_room_written : {o : List ℕ} {at : ℕ} {xs o' : List ℕ} {next : ℕ} → Wrote o at xs o' next → PutIfRoom o at xs o' next
put_if_room_written w = record { next_is = w.next_is; same_length = length_wrote w; buffer_is = λ _. w.buffer_is }

-- no room for all n of them
pub put_if_room_counted : (o : List ℕ) (at : ℕ) (xs : List ℕ) (n : ℕ) → length xs ≡ n → length o < at + n → PutIfRoom o at xs o (at + n)
put_if_room_counted o at xs n e h = record { next_is = omega arith; same_length = refl; buffer_is = λ k. absurd (omega arith) }

pub put_if_room_none : (o : List ℕ) (at : ℕ) → PutIfRoom o at [] o at
put_if_room_none o at = record { next_is = omega arith; same_length = refl; buffer_is = λ _. refl }

-- one run after another
pub put_if_room_then : {o₀ : List ℕ} {at : ℕ} {xs o₁ : List ℕ} {i : ℕ} {ys o₂ : List ℕ} {j : ℕ} → PutIfRoom o₀ at xs o₁ i → PutIfRoom o₁ i ys o₂ j → PutIfRoom o₀ at (xs ++ ys) o₂ j
put_if_room_then {o₀} {at} {xs} {o₁} {i} {ys} {o₂} {j} p q =
    let l = length-append xs ys in
    let e = p.next_is in
    let f = q.next_is in
    let s = p.same_length in
    record {
      next_is = omega arith;
      same_length = q.same_length ∙ p.same_length;
      buffer_is = λ h.
          q.buffer_is (omega arith)
          ∙ ap (λ (o : List ℕ). sets o i ys) (p.buffer_is (omega arith))
          ∙ ap (λ (k : ℕ). sets (sets o₀ at xs) k ys) p.next_is
          ∙ sym (sets_append o₀ at xs ys);
    }

-- the same bytes, named otherwise
pub put_if_room_named : {o : List ℕ} {at : ℕ} {xs ys o' : List ℕ} {next : ℕ} → xs ≡ ys → PutIfRoom o at xs o' next → PutIfRoom o at ys o' next
put_if_room_named {o} {at} {xs} {ys} {o'} {next} e p = subst (λ (l : List ℕ). PutIfRoom o at l o' next) e p

-- the place after n bytes
pub put_if_room_next : {o : List ℕ} {at : ℕ} {xs o' : List ℕ} {next : ℕ} → PutIfRoom o at xs o' next → (n : ℕ) → length xs ≤ n → next ≤ at + n
put_if_room_next p n h = omega (arith, p.next_is)

-- written alone into an array of its length
pub put_if_room_whole : {o xs o' : List ℕ} {next : ℕ} → PutIfRoom o 0 xs o' next → length xs ≡ length o → o' ≡ xs
put_if_room_whole {o} {xs} p e =
    p.buffer_is (omega arith)
    ∙ sets_start o xs (omega arith)
    ∙ ap (λ (l : List ℕ). xs ++ l) (drop_of_length-le o {i = length xs} (omega arith))
    ∙ append-nil xs
