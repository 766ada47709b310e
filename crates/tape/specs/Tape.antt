-- What reading a tape gives (document 01, "Numbers given back").
--     Ending         how a run ends: in a state, or with a refusal
--     Run            a run over some bytes: the characters flashed and the cuts, in order, and the state reached or the first refusal
--     run            from a state, with the next byte at a place
--     read_result     a tape within the limit, read from a state into a buffer of so many bytes
--     tape_result     any tape, read from the start of the machine of so many fonts
use Rattle.std.specs.Prelude.{ℕ, suc, cond, List, [], ◌∷◌, ltb, length, Result as ResultOf, Ok, Err}
use Rattle.octets.specs.Answer.{Result, refusal, written, if_room, tape_too_long, after_cut, no_stop, no_galley_room, number_in}
use Rattle.octets.specs.declared.refusal.Refusal.{Refusal}
use Rattle.octets.specs.declared.refusal.Reason.{Reason}
use Rattle.galley_file.specs.declared.form.Form.TheVariants.{New}
use Rattle.galley_file.specs.declared.item.Item.{Item}
use Rattle.galley_file.specs.declared.item.Item.TheVariants.{Placed, Cut}
use Rattle.galley_file.specs.Galley.{galley}
use Rattle.typesetter.specs.declared.code.Machine.{Machine}
use Rattle.typesetter.specs.declared.machine.State.{State}
use Rattle.typesetter.specs.declared.machine.Effect.TheVariants.{Moved, Flashed, PageEnded}
use Rattle.typesetter.specs.Code.{machine_of}
use Rattle.typesetter.specs.Machine.{start, byte_effect}

abbrev pub max_tape : ℕ
max_tape = 1048576

abbrev pub Ending : Type 0
Ending = ResultOf State Refusal

pub record Run : Type 0 where
  pub items : List Item
  pub ending : Ending

-- the same run with an item before it
abbrev pub item_first : Item → Run → Run
item_first i r = record { items = i ∷ r.items; ending = r.ending }

unfoldable pub run : State → ℕ → List ℕ → Run
run s at [] = record { items = []; ending = Ok s }
run s at (b ∷ bs) =
    elim (byte_effect s b) [
      | Ok (Moved t) ↦ run t (suc at) bs
      | Ok (Flashed c) ↦ item_first (Placed c) (run s (suc at) bs)
      | Ok (PageEnded t) ↦ item_first Cut (run t (suc at) bs)
      | Err r ↦ record { items = []; ending = Err (record { reason = r; place = at }) }
    ]

-- at the end of a tape of so many bytes: the first refusal; 10 after a cut; 9 without stop; else the galley of its items
abbrev pub closing : ℕ → List Item → Ending → Result
closing len is (Ok s) = cond s.cut (refusal after_cut len) (cond s.stopped (written (galley New is)) (refusal no_stop len))
closing len is (Err r) = refusal (number_in r.reason) r.place

-- 12 last
unfoldable pub read_result : State → List ℕ → ℕ → Result
read_result s tape room = if_room no_galley_room room (closing (length tape) (run s 0 tape).items (run s 0 tape).ending)

-- 50 at place 0 for another machine
abbrev pub on_machine : List ℕ → ℕ → ResultOf Machine Reason → Result
on_machine tape room (Ok machine) = read_result (start machine) tape room
on_machine tape room (Err reason) = refusal (number_in reason) 0

-- 1 first
unfoldable pub tape_result : List ℕ → ℕ → ℕ → Result
tape_result tape machine room = cond (ltb max_tape (length tape)) (refusal tape_too_long 0) (on_machine tape room (machine_of machine))
