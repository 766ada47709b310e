-- What a file comes to, by what a pass tells of it.
-- Assumes nothing.
use mathlib.Core.Path.{◌≡◌, refl, sym, ap, subst, ◌∙◌}
use mathlib.Core.List.{List, ◌++◌}
use Prim.Native.Nat.{ℕ, ◌≤◌, ◌<◌}
use native.Mathlib.Nat.{suc-ne-zero}
use native.Mathlib.Omega.{arith}
use borrow.Author.Tests.{lt-ltb, le-ltb}
use lib.ListN.{length, drop}
use Rattle.std.specs.Prelude.{Result, Ok, Err}
use Rattle.octets.specs.Answer.{accepted, refused, Gives, refusal, written, if_room, file_too_long, no_galley_room, not_ours}
use Rattle.octets.specs.AnswerLaws.{room_short, room_enough, gives as outcome-gives}
use Rattle.octets.specs.PutIfRoom.{PutIfRoom}
use Rattle.octets.specs.Write.{sets_start}
use Rattle.galley_file.specs.declared.form.Form.TheVariants.{New}
use Rattle.galley_file.specs.declared.item.Item.{Item}
use Rattle.galley_file.specs.Galley.{galley}
use Rattle.dvi2.specs.File.{max_dvi2}
use Rattle.dvi2_reading.specs.Reading.{gives, bad, read_file, galley_result, read2_result}
use Rattle.dvi2_close.specs.declared.expect.NotOurs.{NotOurs}
use Rattle.dvi2_reader.specs.Pass.{Given, Passed}

items_same : {is js : List Item} → gives is ≡ gives js → is ≡ js
items_same e = cc

module _ (s : List ℕ) where
  -- 20
  pub long_gives : (buffer : List ℕ) → max_dvi2 < length s → Gives (refused file_too_long 0) (read2_result s) buffer buffer
  unfolding read2_result
  long_gives buffer l = outcome-gives {r = refusal file_too_long 0} (rw (lt-ltb max_dvi2 (length s) l)) refl refl

  module _ (l : length s ≤ max_dvi2) where
    -- 46
    pub fault_gives : (buffer : List ℕ) (place : ℕ) → read_file s ≡ bad place → Gives (refused not_ours place) (read2_result s) buffer buffer
    unfolding read2_result galley_result if_room
    fault_gives buffer place e = outcome-gives {r = refusal not_ours place} (rw (le-ltb max_dvi2 (length s) l, e)) refl refl

    result_is : (room : ℕ) (is : List Item) → read_file s ≡ gives is → read2_result s room ≡ if_room no_galley_room room (written (galley New is))
    unfolding read2_result galley_result
    result_is room is e = rw (le-ltb max_dvi2 (length s) l, e)

    module _ (scrap scrap' buffer : List ℕ) (n : ℕ) (g : Given s scrap scrap' n) where
      needed_is : n ≡ length (galley New g.items)
      needed_is = omega (arith, g.puts.next_is)

      -- 12
      pub short_gives : length buffer < n → Gives (refused no_galley_room n) (read2_result s) buffer buffer
      short_gives h =
          outcome-gives {r = refusal no_galley_room n}
          (result_is (length buffer) g.items g.read_as
          ∙ room_short no_galley_room (length buffer) (galley New g.items) (omega (arith, needed_is))
          ∙ ap (refusal no_galley_room) (sym needed_is))
          refl refl

      -- what one pass has read is no fault to the next
      pub no_fault : {X : Type 0} (w : NotOurs) → read_file s ≡ bad w.place → X
      no_fault w p = let z : gives g.items ≡ bad w.place = sym g.read_as ∙ p in absurd (suc-ne-zero 0 cc)

      -- the second pass writes what the first has read
      second_pass : (later : List ℕ) (r : Result ℕ NotOurs) → Passed s buffer later r → length (galley New g.items) ≤ length buffer
          → later ≡ galley New g.items ++ drop (length (galley New g.items)) buffer
      second_pass later (Ok m) p h =
          let q : p.items ≡ g.items = items_same (sym p.read_as ∙ g.read_as) in
          let w : PutIfRoom buffer 0 (galley New g.items) later m = subst (λ (js : List Item). PutIfRoom buffer 0 (galley New js) later m) q p.puts in
          w.buffer_is (omega (arith, h)) ∙ sets_start buffer (galley New g.items) h
      second_pass later (Err w) p h = no_fault w p

      pub whole_gives : (later : List ℕ) (r : Result ℕ NotOurs) → Passed s buffer later r → n ≤ length buffer → Gives (accepted n) (read2_result s) buffer later
      whole_gives later r p h =
          outcome-gives {r = written (galley New g.items)}
          (result_is (length buffer) g.items g.read_as ∙ room_enough no_galley_room (length buffer) (galley New g.items) (omega (arith, needed_is)))
          (ap accepted needed_is)
          (second_pass later r p (omega (arith, needed_is)))
