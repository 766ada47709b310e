-- What an accepted tape gives: the galley of exactly the characters that it flashes and its cuts, in tape order, which the check accepts.
--     accepted_tape    all of this
--     tape_room        what is accepted has room
-- Assumes nothing.
use Rattle.std.specs.Prelude.{◌≡◌, refl, Bool, true, false, cond, List, ℕ, ◌≤◌, ltb, length, Result as ResultOf, Ok, Err}
use Rattle.std.proofs.Common.{ap, ◌∙◌, suc-ne-zero, arith, ltb-false}
use Rattle.octets.specs.Answer.{refusal, written, outcome, if_room, accepted, tape_too_long, after_cut, no_stop, no_galley_room}
use Rattle.octets.specs.declared.refusal.Reason.{Reason}
use Rattle.octets.specs.AnswerLaws.{accepted_room}
use Rattle.galley_file.specs.declared.form.Form.TheVariants.{New}
use Rattle.galley_file.specs.Form.{max_galley}
use Rattle.galley_file.specs.declared.item.Item.{Item}
use Rattle.galley_file.specs.Item.{characters_of}
use Rattle.measure.specs.Place.{height_end}
use Rattle.galley_file.specs.Galley.{max_items, AllValid, galley, whole, read_galley}
use Rattle.galley_file.specs.GalleyLaws.{galley_fits, accepts, accepts_check}
use Rattle.galley_file.specs.Outcome.{check_outcome}
use Rattle.typesetter.specs.declared.code.Machine.{Machine}
use Rattle.typesetter.specs.declared.machine.State.{State}
use Rattle.typesetter.specs.Machine.{start}
use Rattle.typesetter.specs.Code.{machine_of}
use Rattle.tape.specs.Tape.{Ending, max_tape, run, closing, read_result, on_machine, tape_result}
use Rattle.tape.specs.RunLaws.{run_length, run_valid}
use Rattle.typesetter.specs.SoundLaws.{start_sound}

-- the characters that a tape flashes on a machine, and its cuts
abbrev pub items_on : Machine → List ℕ → List Item
items_on kind tape = (run (start kind) 0 tape).items

-- a tape within the limit sets no more items than a galley holds; what it sets is what its galley is read as
module _ (kind : Machine) (tape : List ℕ) (short : length tape ≤ max_tape) where
  pub few_items : length (items_on kind tape) ≤ max_items
  few_items = omega (arith, run_length (start kind) 0 tape, short)

  pub items_read : read_galley New (galley New (items_on kind tape)) ≡ whole (items_on kind tape)
  items_read = accepts New (items_on kind tape) (run_valid (start kind) 0 tape (start_sound kind)) few_items

  pub items_fit : length (galley New (items_on kind tape)) ≤ max_galley New
  items_fit = galley_fits New (items_on kind tape) few_items

pub record AcceptedTape (tape : List ℕ) (machine : ℕ) (bs : List ℕ) : Type 0 where
  pub kind : Machine
  pub named : machine_of machine ≡ Ok kind
  pub short_enough : length tape ≤ max_tape
  pub bytes_are : bs ≡ galley New (items_on kind tape)
  pub valid : AllValid height_end (items_on kind tape)
  pub read_as : read_galley New bs ≡ whole (items_on kind tape)
  pub checked : check_outcome New bs ≡ accepted (length (characters_of (items_on kind tape)))
  pub size : length bs ≤ max_galley New

never : {n p : ℕ} {bs : List ℕ} {X : Type 0} → refusal n p ≡ written bs → X
never e = absurd (suc-ne-zero 0 cc)

-- a tape that is accepted from a state gives the galley of its items
galley_from : (s : State) (tape : List ℕ) (room : ℕ) (bs : List ℕ) → read_result s tape room ≡ written bs → bs ≡ galley New (run s 0 tape).items
unfolding read_result if_room
galley_from s tape room bs q = go (run s 0 tape).ending q
  where
    is : List Item
    is = (run s 0 tape).items

    room_for : (t : Bool) → cond t (refusal no_galley_room (length (galley New is))) (written (galley New is)) ≡ written bs → bs ≡ galley New is
    room_for true e = never e
    room_for false e = cc

    stopped : (u : Bool) → if_room no_galley_room room (cond u (written (galley New is)) (refusal no_stop (length tape))) ≡ written bs → bs ≡ galley New is
    stopped true e = room_for (ltb room (length (galley New is))) e
    stopped false e = never e

    uncut : (t u : Bool) → if_room no_galley_room room (cond t (refusal after_cut (length tape)) (cond u (written (galley New is)) (refusal no_stop (length tape)))) ≡ written bs → bs ≡ galley New is
    uncut true u e = never e
    uncut false u e = stopped u e

    go : (x : Ending) → if_room no_galley_room room (closing (length tape) is x) ≡ written bs → bs ≡ galley New is
    go (Ok s) e = uncut s.cut s.stopped e
    go (Err r) e = never e

pub accepted_tape : (tape : List ℕ) (machine room : ℕ) (bs : List ℕ) → tape_result tape machine room ≡ written bs → AcceptedTape tape machine bs
unfolding tape_result
accepted_tape tape machine room bs q = whole_tape_lem (ltb max_tape (length tape)) refl q
  where
    on : (kind : Machine) → machine_of machine ≡ Ok kind → length tape ≤ max_tape → bs ≡ galley New (items_on kind tape) → AcceptedTape tape machine bs
    on kind m l g =
        let is = items_on kind tape in
        let v = run_valid (start kind) 0 tape (start_sound kind) in
        record {
          kind = kind;
          named = m;
          short_enough = l;
          bytes_are = g;
          valid = v;
          read_as = ap (read_galley New) g ∙ items_read kind tape l;
          checked = ap (check_outcome New) g ∙ accepts_check New is v (few_items kind tape l);
          size = omega (arith, ap length g, items_fit kind tape l);
        }

    by_machine : (k : ResultOf Machine Reason) → machine_of machine ≡ k → length tape ≤ max_tape → on_machine tape room k ≡ written bs → AcceptedTape tape machine bs
    by_machine (Ok kind) m l e = on kind m l (galley_from (start kind) tape room bs e)
    by_machine (Err reason) m l e = never e

    whole_tape_lem : (t : Bool) → ltb max_tape (length tape) ≡ t → cond t (refusal tape_too_long 0) (on_machine tape room (machine_of machine)) ≡ written bs → AcceptedTape tape machine bs
    whole_tape_lem true l e = never e
    whole_tape_lem false l e = by_machine (machine_of machine) refl (ltb-false _ _ l) e

-- what is accepted has room
pub tape_room : (tape : List ℕ) (machine room n : ℕ) → accepted n ≡ outcome (tape_result tape machine room) → n ≤ room
unfolding tape_result read_result
tape_room tape machine room n = go (ltb max_tape (length tape)) (machine_of machine)
  where
    refused : {k p : ℕ} → accepted n ≡ outcome (refusal k p) → n ≤ room
    refused e = absurd (suc-ne-zero 0 cc)

    go : (t : Bool) (k : ResultOf Machine Reason) → accepted n ≡ outcome (cond t (refusal tape_too_long 0) (on_machine tape room k)) → n ≤ room
    go true k e = refused e
    go false (Err reason) e = refused e
    go false (Ok kind) e = accepted_room no_galley_room room n (closing (length tape) (items_on kind tape) (run (start kind) 0 tape).ending) e
