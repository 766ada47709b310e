-- A galley written in another form: how long it is, and what the two operations give.
-- Assumes nothing.
use mathlib.Core.Path.{◌≡◌, sym, ap, ◌∙◌}
use mathlib.Core.List.{List}
use Prim.Native.Nat.{ℕ, ◌+◌, ◌-◌, ◌*◌, ◌≤◌, ◌<◌}
use native.Mathlib.Omega.{arith}
use lib.ListN.{length}
use lib.Seq.{sets}
use Rattle.octets.specs.Answer.{accepted, refused, refusal, written, if_room, Gives, no_converted_room}
use Rattle.octets.specs.AnswerLaws.{room_short, room_enough, gives}
use Rattle.octets.specs.Field.{end_field}
use Rattle.octets.specs.Write.{Wrote, then, named, sets_start}
use Rattle.galley_file.specs.declared.form.Form.{Form}
use Rattle.galley_file.specs.declared.form.Form.TheVariants.{Old, New}
use Rattle.galley_file.specs.Form.{character_size}
use Rattle.galley_file.specs.Item.{characters_of, cuts_of}
use Rattle.galley_file.specs.ItemLaws.{all_counted}
use Rattle.galley_file.specs.Galley.{max_items, fields, galley, read_galley, items_of}
use Rattle.galley_file.specs.GalleyLaws.{checked, read_as, length_fields, length_galley}
use Rattle.galley_file.specs.ReadingLaws.{reading_length}
use Rattle.galley_file.specs.Outcome.{check_outcome}
use Rattle.galley_check.specs.ResultLaws.{result_refused, result_made}
use Rattle.galley_check.specs.Low.{low_outcome}
use Rattle.galley_check.specs.LowLaws.{low_made, low_refused}
use Rattle.conversion.specs.Conversion.{new_result, old_result, form_result}

module _ (from to : Form) (g : List ℕ) where
  -- ---- how long it is

  module _ (count : ℕ) (e : accepted count ≡ check_outcome from g) where
    counted : length (characters_of (items_of from g)) ≡ count
    unfolding items_of
    counted = let k = checked from g count e in rw k.read k.counted

    -- a galley's length, in any form
    length_in : (f : Form) → length (galley f (items_of from g)) ≡ character_size f * count + 3 * cuts_of (items_of from g) + 7
    length_in f = length_galley f (items_of from g) ∙ ap (λ (n : ℕ). n + 7) (length_fields f (items_of from g) ∙ ap (λ (n : ℕ). character_size f * n + 3 * cuts_of (items_of from g)) counted)

    pub length_is : length g ≡ character_size from * count + 3 * cuts_of (items_of from g) + 7
    unfolding read_galley
    length_is =
        reading_length from (items_of from g) max_items g 0 0 (read_as from g count e) ∙ sym (length_galley from (items_of from g)) ∙ length_in from

    pub few : count ≤ max_items
    few = let k = checked from g count e in omega (arith, k.few, k.counted, all_counted k.items)

    pub needed_is : (a b : ℕ) → a ≡ character_size from * count → b ≡ character_size to * count → length g - a + b ≡ length (galley to (items_of from g))
    needed_is a b x y = omega (arith, x, y, length_is, length_in to)

    pub fields_fit : length (fields to (items_of from g)) + 7 ≡ length (galley to (items_of from g))
    fields_fit = sym (length_galley to (items_of from g))

    pub all_written : (o₀ o₁ o₂ : List ℕ) (i j : ℕ) → Wrote o₀ 0 (fields to (items_of from g)) o₁ i → Wrote o₁ i (end_field count) o₂ j → o₂ ≡ sets o₀ 0 (galley to (items_of from g))
    unfolding galley
    all_written o₀ o₁ o₂ i j w v = (then w (named (ap end_field (sym counted)) v)).buffer_is

    module _ (out : List ℕ) (need : ℕ) (q : need ≡ length (galley to (items_of from g))) where
      pub no_room : length out < need → form_result from to g (length out) ≡ refusal no_converted_room need
      unfolding form_result
      no_room h = room_short no_converted_room (length out) (galley to (items_of from g)) (omega arith) ∙ ap (refusal no_converted_room) (sym q)

      enough : need ≤ length out → form_result from to g (length out) ≡ written (galley to (items_of from g))
      unfolding form_result
      enough h = room_enough no_converted_room (length out) (galley to (items_of from g)) (omega arith)

      pub with_room : need ≤ length out → (o : List ℕ) → o ≡ sets out 0 (galley to (items_of from g))
          → Gives (accepted need) (form_result from to g) out o
      with_room h o p = gives (enough h) (ap accepted q) (p ∙ sets_start out (galley to (items_of from g)) (omega arith))

-- ---- the two operations

module _ (g : List ℕ) (room : ℕ) where
  pub new_refused : (n place : ℕ) → refused n place ≡ check_outcome Old g → new_result g room ≡ refusal n place
  unfolding new_result if_room
  new_refused n place e = ap (if_room no_converted_room room) (result_refused Old (λ is. written (galley New is)) g n place e)

  pub new_accepted : (count : ℕ) → accepted count ≡ check_outcome Old g → new_result g room ≡ form_result Old New g room
  unfolding new_result form_result
  new_accepted count e = ap (if_room no_converted_room room) (result_made Old (λ is. written (galley New is)) g count e)

  pub old_refused : (n place : ℕ) → refused n place ≡ low_outcome g → old_result g room ≡ refusal n place
  unfolding old_result if_room
  old_refused n place e = ap (if_room no_converted_room room) (sym (low_refused (galley Old) g n place e))

  pub old_accepted : (count : ℕ) → accepted count ≡ low_outcome g → old_result g room ≡ form_result New Old g room
  unfolding old_result form_result
  old_accepted count e = ap (if_room no_converted_room room) (low_made (galley Old) g count e)
