-- One turn of a pass over a checked galley: the codes of the items behind are sent, and the machine is in the state after them.
-- Assumes nothing.
use mathlib.Core.Path.{◌≡◌, refl, sym, ap, subst, ◌∙◌}
use mathlib.Core.Bool.{Bool, true, false, cond}
use mathlib.Core.List.{List, [], ◌∷◌, ◌++◌, append_assoc, foldl-append}
use Prim.Native.Nat.{ℕ, ◌+◌, ◌*◌, ◌≤◌, ◌<◌}
use native.Mathlib.Omega.{arith}
use borrow.Author.Tests.{lt-ltb, le-ltb}
use lib.ListN.{length, length-append}
use lib.Seq.{sets}
use Rattle.octets.specs.Answer.{accepted, refused, refusal, written, if_room, Gives, punched_too_long, no_tape_room}
use Rattle.octets.specs.AnswerLaws.{room_refused, room_short, room_enough, gives}
use Rattle.measure.specs.Place.{height_end}
use Rattle.octets.specs.Transducer.{transduced}
use Rattle.octets.proofs.TransducerLaws.{transduced_append, transduced_more}
use Rattle.galley_file.specs.declared.form.Form.TheVariants.{New}
use Rattle.galley_file.specs.declared.item.Item.{Item}
use Rattle.galley_file.specs.Item.{valid_item}
use Rattle.galley_file.specs.Galley.{max_items, items_of}
use Rattle.galley_file.specs.Outcome.{check_outcome}
use Rattle.galley_check.specs.ResultLaws.{result_refused, result_made}
use Rattle.typesetter.specs.declared.machine.State.{State}
use Rattle.typesetter.specs.Sound.{Sound}
use Rattle.tape.specs.Tape.{max_tape}
use Rattle.punch_codes.specs.Codes.{start_codes, begun, item_codes, state_after}
use Rattle.punch_codes.proofs.CodesLaws.{begun_sound, after_sound, item_most}
use Rattle.punch.specs.Punch.{items_codes, state_after_all, punched, if_short, punch_result}
use Rattle.octets.specs.Write.{sets_start, Put, put_named, put_none, put_then, put_length}
use Rattle.octets.specs.Space.{Space}

-- ---- the pass

-- the codes of the items gone by are put into what was `first`, and the machine is in the state s
pub record Punching (w : Bool) (first out : List ℕ) (next : ℕ) (s : State) (done : List Item) : Type 0 where
  pub put : Put w first 2 (items_codes begun done) out next
  pub state_is : s ≡ state_after_all begun done
  pub sound : Sound s
  pub small : next ≤ 1100000 * length done + 2

pub punching_start : (w : Bool) (first : List ℕ) (s : State) → s ≡ begun → Punching w first first 2 s []
unfolding transduced
punching_start w first s q = record { put = put_none _ _ _; state_is = q; sound = subst Sound (sym q) begun_sound; small = omega arith }

module _ (w : Bool) (first out : List ℕ) (next : ℕ) (s : State) (done : List Item) (c : Punching w first out next s done) where
  -- the item i comes next
  module _ (i : Item) (v : valid_item height_end i ≡ true) where
    -- its codes follow those of the items behind
    longer : items_codes begun (done ++ (i ∷ [])) ≡ items_codes begun done ++ item_codes s i
    longer = transduced_more item_codes state_after begun done i ∙ ap (λ (x : State). items_codes begun done ++ item_codes x i) (sym c.state_is)

    most : length (item_codes s i) ≤ 1100000
    most = item_most s i c.sound v

    pub punching_space : (all rest : List Item) → all ≡ done ++ (i ∷ rest) → length all ≤ max_items → (w ≡ true → 2 + length (items_codes begun all) ≤ length first) → Space w out next (item_codes s i)
    punching_space all rest a few room =
        let d = done ++ (i ∷ []) in
        let k = a ∙ sym (append_assoc done (i ∷ []) rest) in
        record {
          room = λ t.
              omega (
                arith,
                room t,
                put_length c.put,
                c.put.place,
                ap length longer,
                length-append (items_codes begun done) (item_codes s i),
                ap (λ (l : List Item). length (items_codes begun l)) k,
                ap length (transduced_append item_codes state_after begun d rest),
                length-append (items_codes begun d) (items_codes (state_after_all begun d) rest),
              );
          counts = omega (arith, most, c.small, ap length a, length-append done (i ∷ rest), few);
        }

    pub punching_next : (t : State) → t ≡ state_after s i → (later : List ℕ) (then : ℕ) → Put w out next (item_codes s i) later then → Punching w first later then t (done ++ (i ∷ []))
    punching_next t q later then p =
        record {
          put = put_named (sym longer) (put_then c.put p);
          state_is = q ∙ ap (λ (x : State). state_after x i) c.state_is ∙ sym (foldl-append state_after begun done (i ∷ []));
          sound = subst Sound (sym q) (after_sound s i v);
          small = omega (arith, p.place, most, c.small, length-append done (i ∷ []));
        }

  pub punching_end : (all : List Item) → all ≡ done → length all ≤ max_items → (Put w first 2 (items_codes begun all) out next) × (next < 18446744073709551615)
  punching_end all a few = (put_named (ap (items_codes begun) (sym a)) c.put, omega (arith, c.small, ap length a, few))

-- ---- a whole tape: the start, the items and stop

length_punched : (is : List Item) → length (punched is) ≡ 2 + length (items_codes begun is) + 1
unfolding punched
length_punched is = omega (arith, length-append start_codes (items_codes begun is ++ (0x49 ∷ [])), length-append (items_codes begun is) (0x49 ∷ []))

module _ (w : Bool) (is : List Item) (first : List ℕ) (room : w ≡ true → length (punched is) ≤ length first) where
  pub start_space : Space w first 0 start_codes
  start_space = record { room = λ t. omega (arith, room t, length_punched is); counts = omega arith }

  module _ (mid : List ℕ) (i : ℕ) (p : Put w first 0 start_codes mid i) where
    pub items_space : w ≡ true → 2 + length (items_codes begun is) ≤ length mid
    items_space t = omega (arith, room t, length_punched is, put_length p)

    module _ (out : List ℕ) (next : ℕ) (q : Put w mid 2 (items_codes begun is) out next) where
      pub stop_space : next < 18446744073709551615 → Space w out next (0x49 ∷ [])
      stop_space h = record { room = λ t. omega (arith, room t, length_punched is, put_length p, put_length q, q.place); counts = omega arith }

      pub all_put : (last : List ℕ) (r : ℕ) → Put w out next (0x49 ∷ []) last r → Put w first 0 (punched is) last r
      unfolding punched
      all_put last r s = let o : Put w first 0 start_codes mid 2 = record { buffer = p.buffer; place = refl } in put_then o (put_then q s)

-- ---- the result

module _ (g : List ℕ) where
  pub punch_refused : (room n place : ℕ) → refused n place ≡ check_outcome New g → punch_result g room ≡ refusal n place
  unfolding punch_result if_room
  punch_refused room n place e = ap (if_room no_tape_room room) (result_refused New (λ is. if_short (punched is)) g n place e)

  module _ (count : ℕ) (e : accepted count ≡ check_outcome New g) where
    -- the tape
    abbrev bs : List ℕ
    bs = punched (items_of New g)

    punch_accepted : (room : ℕ) → punch_result g room ≡ if_room no_tape_room room (if_short bs)
    unfolding punch_result
    punch_accepted room = ap (if_room no_tape_room room) (result_made New (λ is. if_short (punched is)) g count e)

    -- with the buffer after the first pass, which writes nothing, and the length that it gives
    module _ (out mid : List ℕ) (needed : ℕ) (p : Put false out 0 bs mid needed) where
      pub punch_long : max_tape < needed → Gives (refused punched_too_long 0) (punch_result g) out mid
      punch_long h =
          gives {r = refusal punched_too_long 0}
          (punch_accepted (length out) ∙ rw (lt-ltb max_tape (length bs) (omega (arith, p.place))) (room_refused no_tape_room (length out) punched_too_long 0))
          refl p.buffer

      module _ (short : needed ≤ max_tape) where
        within : punch_result g (length out) ≡ if_room no_tape_room (length out) (written bs)
        within =
            punch_accepted (length out)
            ∙ ap (λ (t : Bool). if_room no_tape_room (length out) (cond t (refusal punched_too_long 0) (written bs))) (le-ltb max_tape (length bs) (omega (arith, p.place)))

        pub punch_no_room : length out < needed → Gives (refused no_tape_room needed) (punch_result g) out mid
        punch_no_room h =
            let n : length bs ≡ needed = omega (arith, p.place) in
            gives (within ∙ room_short no_tape_room (length out) bs (omega (arith, p.place)) ∙ ap (refusal no_tape_room) n) refl p.buffer

        -- and after the second pass
        pub punch_room : needed ≤ length out → (last : List ℕ) (r : ℕ) → Put true mid 0 bs last r → Gives (accepted needed) (punch_result g) out last
        punch_room h last r q =
            let n : needed ≡ length bs = omega (arith, p.place) in
            gives (within ∙ room_enough no_tape_room (length out) bs (omega arith)) (ap accepted n)
            (q.buffer ∙ ap (λ (o : List ℕ). sets o 0 bs) p.buffer ∙ sets_start out bs (omega arith))
