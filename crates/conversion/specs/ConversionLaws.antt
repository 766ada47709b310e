-- The laws of conversion.
--     there_and_back       an old galley made new and old again is the same bytes
--     back_and_there       a new galley made old, where that was possible, and new again is the same bytes
--     kept_new, kept_old   characters, cuts, their order and End pass unchanged
--     refused_exactly      with a valid galley and room, going back is refused exactly if some height is above 65,535
-- Assumes nothing.
use Rattle.std.specs.Prelude.{◌≡◌, ◌↔◌, Bool, true, false, cond, List, [], ◌∷◌, ℕ, ◌+◌, ◌≤◌, ltb, ◌<ℤ◌}
use Rattle.std.proofs.Math.Path.{refl, ap}
use Rattle.std.proofs.Common.{sym, subst, ◌∙◌, suc-ne-zero, arith, le-ltb}
use Rattle.std.proofs.Math.Option.{Option, none, some}
use Rattle.std.proofs.Math.ListN.{length}
use Rattle.std.specs.Int.Signed.{le_z}
use Rattle.integers.specs.Parts.{integers, false_le_z}
use Rattle.octets.specs.Octets.{Bytes}
use Rattle.octets.specs.Answer.{accepted, Result, refusal, written, if_room, galley_too_long, height_too_great, no_converted_room}
use Rattle.octets.specs.AnswerLaws.{room_refused, room_enough, room_made}
use Rattle.measure.specs.Place.{low_end}
use Rattle.galley_file.specs.declared.form.Form.{Form}
use Rattle.galley_file.specs.declared.form.Form.TheVariants.{Old, New}
use Rattle.galley_file.specs.declared.item.Item.{Item}
use Rattle.galley_file.specs.declared.item.Item.TheVariants.{Placed, Cut}
use Rattle.galley_file.specs.Form.{max_galley}
use Rattle.galley_file.specs.Item.{characters_of}
use Rattle.galley_file.specs.Galley.{max_items, AllValid, galley, Reading, whole, malformed, read_galley, items_in, items_of}
use Rattle.galley_file.specs.GalleyLaws.{checked, accepts, accepts_check, galley_fits}
use Rattle.galley_file.specs.Outcome.{check_outcome}
use Rattle.galley_check.specs.Result.{made_of, checked_result}
use Rattle.galley_check.specs.ResultLaws.{result_written}
use Rattle.galley_check.specs.Low.{first_high, or_too_great, low_reading, low_result}
use Rattle.galley_check.specs.LowLaws.{low_accepts, low_made, low_valid, raised}
use Rattle.conversion.specs.Conversion.{new_result, old_result, Same, Above, here, later}

-- ---- galleys of the same items

-- valid items, few enough, are in either form what they are
module _ (is : List Item) (v : AllValid low_end is) (few : length is ≤ max_items) where
  pub reads : (form : Form) → read_galley form (galley form is) ≡ whole is
  reads Old = accepts Old is v few
  reads New = accepts New is (raised v) few

  -- the new galley is made old
  made_old : low_result (galley Old) (galley New is) ≡ written (galley Old is)
  unfolding items_of
  made_old =
      let n = length (characters_of is) in
      let a = low_accepts (galley New is) n is (accepts_check New is (raised v) few) (reads New) v in
      low_made (galley Old) (galley New is) n (sym a) ∙ ap (λ (x : Reading). written (galley Old (items_in x))) (reads New)

  pub to_old : (room : ℕ) → length (galley Old is) ≤ room → old_result (galley New is) room ≡ written (galley Old is)
  unfolding old_result
  to_old room h = ap (if_room no_converted_room room) made_old ∙ room_enough no_converted_room room (galley Old is) h

  -- the old galley is made new
  pub to_new : (room : ℕ) → length (galley New is) ≤ room → new_result (galley Old is) room ≡ written (galley New is)
  unfolding new_result checked_result
  to_new room h = rw (le-ltb (max_galley Old) (length (galley Old is)) (galley_fits Old is few), reads Old) (room_enough no_converted_room room (galley New is) h)

  pub same : (from to : Form) → Same from to (galley from is) (galley to is)
  unfolding galley
  same from to = record { items = is; read_from = reads from; read_to = reads to; fields_from = refl; fields_to = refl }

-- ---- what a result tells

-- two galleys of the same items, valid up to 65,535, each in its form
pub record SameItems (from to : Form) (g h : List ℕ) : Type 0 where
  pub items : List Item
  pub valid : AllValid low_end items
  pub few : length items ≤ max_items
  pub from_is : g ≡ galley from items
  pub to_is : h ≡ galley to items

pub new_made : (old new : List ℕ) (room : ℕ) → Bytes old → new_result old room ≡ written new → SameItems Old New old new
unfolding new_result
new_made old new room b e =
    let m = result_written Old (λ is. written (galley New is)) old new b (room_made no_converted_room room _ new e) in
    let w : galley New m.items ≡ new = (let k = m.made in cc) in
    record { items = m.items; valid = m.valid; few = m.few; from_is = m.bytes; to_is = sym w }

-- what the old form makes of the items of a new galley
abbrev low_only : List Item → Result
low_only is = or_too_great (first_high is 0) (galley Old is)

low_checked : (new : List ℕ) → low_result (galley Old) new ≡ checked_result New low_only new
unfolding low_result checked_result
low_checked new = ap (cond (ltb (max_galley New) (length new)) (refusal galley_too_long 0)) (go (read_galley New new))
  where
    go : (r : Reading) → low_reading (galley Old) r ≡ made_of low_only r
    go (whole is) = refl
    go (malformed p) = refl

pub old_made : (new old : List ℕ) (room : ℕ) → Bytes new → old_result new room ≡ written old → SameItems New Old new old
unfolding old_result
old_made new old room b e =
    let m = result_written New low_only new old b (sym (low_checked new) ∙ room_made no_converted_room room _ old e) in
    let w = low m.items (first_high m.items 0) refl m.made in
    record { items = m.items; valid = low_valid m.items 0 m.valid w.0; few = m.few; from_is = m.bytes; to_is = w.1 }
  where
    low : (is : List Item) (o : Option ℕ) → first_high is 0 ≡ o → or_too_great o (galley Old is) ≡ written old → (first_high is 0 ≡ none) × (old ≡ galley Old is)
    low is none f h = (f, cc)
    low is (some p) f h = absurd (suc-ne-zero 0 cc)

-- ---- there and back

pub there_and_back : (old new : List ℕ) (room room' : ℕ) → Bytes old → new_result old room ≡ written new → length old ≤ room' → old_result new room' ≡ written old
there_and_back old new room room' b e h =
    let m = new_made old new room b e in
    ap (λ (g : List ℕ). old_result g room') m.to_is
    ∙ to_old m.items m.valid m.few room' (omega (arith, ap length m.from_is)) ∙ ap written (sym m.from_is)

pub back_and_there : (new old : List ℕ) (room room' : ℕ) → Bytes new → old_result new room ≡ written old → length new ≤ room' → new_result old room' ≡ written new
back_and_there new old room room' b e h =
    let m = old_made new old room b e in
    ap (λ (g : List ℕ). new_result g room') m.to_is
    ∙ to_new m.items m.valid m.few room' (omega (arith, ap length m.from_is)) ∙ ap written (sym m.from_is)

kept : {from to : Form} {g h : List ℕ} → SameItems from to g h → Same from to g h
kept {from} {to} {g} {h} m =
    subst (λ (x : List ℕ). Same from to x h) (sym m.from_is) (subst (Same from to (galley from m.items)) (sym m.to_is) (same m.items m.valid m.few from to))

pub kept_new : (old new : List ℕ) (room : ℕ) → Bytes old → new_result old room ≡ written new → Same Old New old new
kept_new old new room b e = kept (new_made old new room b e)

pub kept_old : (new old : List ℕ) (room : ℕ) → Bytes new → old_result new room ≡ written old → Same New Old new old
kept_old new old room b e = kept (old_made new old room b e)

-- ---- when going back is refused

above_high : (is : List Item) (at : ℕ) → Above (characters_of is) → (p : ℕ) × (first_high is at ≡ some p)
unfolding first_high characters_of
above_high [] at a = elim a [ ]
above_high (Cut ∷ is) at a = above_high is (at + 3) a
above_high (Placed c ∷ is) at (here h) = (at, rw (false_le_z c.height.0 low_end (omega (integers, h))))
above_high (Placed c ∷ is) at (later a) = go (le_z c.height.0 low_end) (above_high is (at + 11) a)
  where
    go : (t : Bool) → ((p : ℕ) × (first_high is (at + 11) ≡ some p)) → (p : ℕ) × (cond t (first_high is (at + 11)) (some at) ≡ some p)
    go true r = r
    go false r = (at, refl)

high_above : (is : List Item) (at p : ℕ) → first_high is at ≡ some p → Above (characters_of is)
unfolding first_high characters_of
high_above [] at p e = absurd (suc-ne-zero 0 cc)
high_above (Cut ∷ is) at p e = high_above is (at + 3) p e
high_above (Placed c ∷ is) at p e = go (le_z c.height.0 low_end) refl (high_above is (at + 11) p) e
  where
    go : (t : Bool) → le_z c.height.0 low_end ≡ t → (first_high is (at + 11) ≡ some p → Above (characters_of is))
        → cond t (first_high is (at + 11)) (some at) ≡ some p → Above (c ∷ characters_of is)
    go true l rest h = later (rest h)
    go false l rest h = let q : low_end <ℤ c.height.0 = omega (integers, l) in here q

-- a valid new galley, and room for its items in the old form
module _ (new : List ℕ) (n room : ℕ) (is : List Item) (e : check_outcome New new ≡ accepted n) (r : read_galley New new ≡ whole is) (fits : length (galley Old is) ≤ room) where
  by_height : old_result new room ≡ if_room no_converted_room room (or_too_great (first_high is 0) (galley Old is))
  unfolding old_result low_result
  by_height = rw (le-ltb (max_galley New) (length new) (checked New new n (sym e)).fits, r)

  pub refused_exactly : ((number : ℕ) × (place : ℕ) × (old_result new room ≡ refusal number place)) ↔ Above (characters_of is)
  refused_exactly = (λ q. there (first_high is 0) refl q.0 q.1 (sym by_height ∙ q.2), λ a. let p = above_high is 0 a in (height_too_great, p.0, by_height ∙ back p.0 p.1))
    where
      there : (o : Option ℕ) → first_high is 0 ≡ o → (number place : ℕ)
          → if_room no_converted_room room (or_too_great o (galley Old is)) ≡ refusal number place → Above (characters_of is)
      there none f number place h =
          let k : written (galley Old is) ≡ refusal number place = sym (room_enough no_converted_room room (galley Old is) fits) ∙ h in
          let z : ◌≡◌ {A = ℕ} 0 1 = cc in
          absurd (omega arith)
      there (some p) f number place h = high_above is 0 p f

      back : (p : ℕ) → first_high is 0 ≡ some p → if_room no_converted_room room (or_too_great (first_high is 0) (galley Old is)) ≡ refusal height_too_great p
      back p f = rw f (room_refused no_converted_room room height_too_great p)
