-- The result of reading a tape, by what was found of it.
--     machine_four, machine_eight, machine_none     the machine that a number names
--     long_tape, other_machine, on_machine_lem          any tape
--     read_fault, read_cut, read_open, read_short, read_whole     a tape within the limit, read from a state
--     fields_counted                                the bytes of the fields of so many characters and cuts
-- Assumes nothing.
use Rattle.std.specs.Prelude.{◌≡◌, refl, Bool, true, false, cond, List, ℕ, ◌+◌, ◌*◌, ◌≤◌, ◌<◌, length, Result as ResultOf, Ok, Err}
use Rattle.std.proofs.Common.{sym, ◌∙◌, arith, lt-ltb, le-ltb, eq-eqb, ne_eqb}
use Rattle.std.proofs.Math.Path.{ap}
use Rattle.octets.specs.Answer.{Result, refusal, written, if_room, tape_too_long, after_cut, no_stop, no_galley_room, no_machine, number_in}
use Rattle.octets.specs.declared.refusal.Refusal.{Refusal}
use Rattle.octets.specs.declared.refusal.Reason.{Reason}
use Rattle.octets.specs.declared.refusal.Reason.TheVariants.{NoMachine}
use Rattle.octets.specs.AnswerLaws.{room_refused, room_short, room_enough}
use Rattle.galley_file.specs.declared.form.Form.TheVariants.{New}
use Rattle.galley_file.specs.declared.item.Item.{Item}
use Rattle.galley_file.specs.Item.{characters_of, cuts_of}
use Rattle.galley_file.specs.Galley.{fields, galley}
use Rattle.galley_file.specs.GalleyLaws.{length_fields, length_galley}
use Rattle.typesetter.specs.declared.code.Machine.{Machine}
use Rattle.typesetter.specs.declared.code.Machine.TheVariants.{Four, Eight}
use Rattle.typesetter.specs.declared.machine.State.{State}
use Rattle.typesetter.specs.Machine.{start}
use Rattle.typesetter.specs.Code.{machine_of}
use Rattle.tape.specs.Tape.{Ending, max_tape, run, closing, read_result, on_machine, tape_result}

pub machine_four : (n : ℕ) → n ≡ 4 → machine_of n ≡ Ok Four
machine_four n e = rw (eq-eqb n 4 e)

pub machine_eight : (n : ℕ) → (n ≡ 4 → ⊥) → n ≡ 8 → machine_of n ≡ Ok Eight
machine_eight n f e = rw (ne_eqb n 4 f, eq-eqb n 8 e)

pub machine_none : (n : ℕ) → (n ≡ 4 → ⊥) → (n ≡ 8 → ⊥) → machine_of n ≡ Err NoMachine
machine_none n f e = rw (ne_eqb n 4 f, ne_eqb n 8 e)

pub long_tape : (tape : List ℕ) (machine room : ℕ) → max_tape < length tape → tape_result tape machine room ≡ refusal tape_too_long 0
unfolding tape_result
long_tape tape machine room h = rw (lt-ltb _ _ h)

module _ (tape : List ℕ) (machine room : ℕ) (fits : length tape ≤ max_tape) where
  fit_tape : {k : ResultOf Machine Reason} → machine_of machine ≡ k → tape_result tape machine room ≡ on_machine tape room k
  unfolding tape_result
  fit_tape e = rw (le-ltb _ _ fits) (ap (on_machine tape room) e)

  pub other_machine : machine_of machine ≡ Err NoMachine → tape_result tape machine room ≡ refusal no_machine 0
  other_machine e = fit_tape e

  pub on_machine_lem : {kind : Machine} → machine_of machine ≡ Ok kind → {s : State} → s ≡ start kind → tape_result tape machine room ≡ read_result s tape room
  on_machine_lem e q = fit_tape e ∙ sym (ap (λ (s : State). read_result s tape room) q)

module _ (s : State) (tape : List ℕ) (room : ℕ) where
  by_ending : {e : Ending} → (run s 0 tape).ending ≡ e → read_result s tape room ≡ if_room no_galley_room room (closing (length tape) (run s 0 tape).items e)
  unfolding read_result
  by_ending q = ap (λ (e : Ending). if_room no_galley_room room (closing (length tape) (run s 0 tape).items e)) q

  pub read_fault : {r : Refusal} → (run s 0 tape).ending ≡ Err r → read_result s tape room ≡ refusal (number_in r.reason) r.place
  read_fault {r} q = by_ending q ∙ room_refused no_galley_room room (number_in r.reason) r.place

  module _ (t : State) (q : (run s 0 tape).ending ≡ Ok t) where
    abbrev closed : Bool → Bool → Result
    closed k u = if_room no_galley_room room (cond k (refusal after_cut (length tape)) (cond u (written (galley New (run s 0 tape).items)) (refusal no_stop (length tape))))

    closes : {k u : Bool} → t.cut ≡ k → t.stopped ≡ u → read_result s tape room ≡ closed k u
    closes d e = by_ending q ∙ (λ i. closed (d i) (e i))

    pub read_cut : t.cut ≡ true → read_result s tape room ≡ refusal after_cut (length tape)
    read_cut d = closes d refl ∙ room_refused no_galley_room room after_cut (length tape)

    module _ (d : t.cut ≡ false) where
      pub read_open : t.stopped ≡ false → read_result s tape room ≡ refusal no_stop (length tape)
      read_open e = closes d e ∙ room_refused no_galley_room room no_stop (length tape)

      module _ (e : t.stopped ≡ true) (n : ℕ) (m : n ≡ length (fields New (run s 0 tape).items)) where
        pub needed : length (galley New (run s 0 tape).items) ≡ n + 7
        needed = omega (arith, length_galley New (run s 0 tape).items, m)

        pub read_short : room < n + 7 → read_result s tape room ≡ refusal no_galley_room (n + 7)
        read_short h =
            closes d e
            ∙ room_short no_galley_room room (galley New (run s 0 tape).items) (omega (arith, needed))
            ∙ ap (refusal no_galley_room) needed

        pub read_whole : n + 7 ≤ room → read_result s tape room ≡ written (galley New (run s 0 tape).items)
        read_whole h = closes d e ∙ room_enough no_galley_room room (galley New (run s 0 tape).items) (omega (arith, needed))

-- the bytes of the fields that a pass has counted
pub fields_counted : (is : List Item) (n k : ℕ) → n ≡ length (characters_of is) → k ≡ 3 * cuts_of is → 11 * n + k ≡ length (fields New is)
fields_counted is n k e d = omega (arith, length_fields New is, e, d)
