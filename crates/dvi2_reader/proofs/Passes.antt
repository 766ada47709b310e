-- One turn of the pass: the items so far are those that the bytes before the place lead to, they are tallied, and their fields are written as far as there is room.
-- Assumes nothing.
use mathlib.Core.Path.{◌≡◌, sym, ap, subst, ◌∙◌}
use mathlib.Core.Bool.{true}
use mathlib.Core.List.{List, [], ◌∷◌, ◌++◌}
use Prim.Native.Nat.{ℕ, ◌≤◌, ◌<◌}
use native.Mathlib.Omega.{arith}
use lib.ListN.{length}
use Rattle.octets.specs.Field.{end_field}
use Rattle.octets.specs.PutIfRoom.{PutIfRoom}
use Rattle.octets.specs.PutIfRoomLaws.{put_if_room_none, put_if_room_then, put_if_room_named}
use Rattle.measure.specs.Place.{height_end}
use Rattle.galley_file.specs.declared.form.Form.TheVariants.{New}
use Rattle.galley_file.specs.declared.item.Item.{Item}
use Rattle.galley_file.specs.Item.{valid_item, item_field}
use Rattle.galley_file.specs.ItemLaws.{all_counted}
use Rattle.galley_file.specs.Galley.{fields, galley}
use Rattle.galley_file.specs.GalleyLaws.{length_fields, fields_append, fields_one}
use Rattle.dvi2.specs.Writer.{first_writing}
use Rattle.dvi2.specs.WriterLaws.{writing_at}
use Rattle.dvi2_reading.specs.Beginning.{Writable}
use Rattle.dvi2_reading.specs.Reading.{in_page, new_page_state, gives, bad, at_end, read_file}
use Rattle.dvi2_reading.specs.PageReading as Page
use Rattle.dvi2_reading.specs.Reached.{writing_of}
use Rattle.dvi2_reading.specs.Standing.{Standing}
use Rattle.dvi2_reading.proofs.StandingLaws.{standing_end}
use Rattle.dvi2_state.specs.declared.page_state.PageState.{PageState}
use Rattle.dvi2_state.specs.Page.{page_state_of}
use Rattle.dvi2_turn.specs.declared.tally.Tally.{Tally}
use Rattle.dvi2_turn.specs.Tally.{TallyIs, TallyRanged}
use Rattle.dvi2_reader.specs.Pass.{Given}
use Rattle.dvi2_turn.specs.Turn.{Turning}
use Rattle.dvi2_turn.proofs.Stands.{last_valid}
use Rattle.dvi2_turn.proofs.Tallies.{tally_ranged}

pub record Going (s before : List ℕ) (at : ℕ) (h : PageState) (t : Tally) (to : ℕ) (out : List ℕ) : Type 0 where
  pub items : List Item
  pub standing : Standing s (in_page (page_state_of items h)) at
  pub tally : TallyIs t items
  pub puts : PutIfRoom before 0 (fields New items) out to

pub going_start : (s before : List ℕ) (at : ℕ) (h : PageState) (t : Tally) → Standing s (in_page (new_page_state [])) at → page_state_of [] h ≡ new_page_state [] → TallyIs t [] → Going s before at h t 0 before
unfolding fields
going_start s before at h t k e n =
    record { items = []; standing = subst (λ (g : Page.PageState). Standing s (in_page g) at) (sym e) k; tally = n; puts = put_if_room_none before 0 }

module _ (s before : List ℕ) (at : ℕ) (h : PageState) (t : Tally) (to : ℕ) (out : List ℕ) (g : Going s before at h t to out) where
  writable : Writable g.items
  writable = g.standing.reached.writable

  pub going_ranged : TallyRanged t
  going_ranged = tally_ranged t g.items g.tally writable

  pub going_room : to < 4294967296
  going_room = omega (arith, g.puts.next_is, length_fields New g.items, all_counted g.items, writable.few)

  pub going_turning : Turning s at h t
  going_turning = record { items = g.items; standing = g.standing; tally = g.tally }

  pub going_on : (f : PageState) (next : ℕ) → Standing s (in_page (page_state_of g.items f)) next → Going s before next f t to out
  going_on f next k = record { items = g.items; standing = k; tally = g.tally; puts = g.puts }

  module _ (i : Item) (f : PageState) (next : ℕ) (k : Standing s (in_page (page_state_of (g.items ++ (i ∷ [])) f)) next) where
    pub going_valid : valid_item height_end i ≡ true
    going_valid = last_valid g.items i k.reached.writable.all_valid

    pub going_least : next ≡ (writing_of (g.items ++ (i ∷ []))).at → 45 ≤ next
    unfolding first_writing
    going_least e = omega (arith, e, writing_at first_writing (g.items ++ (i ∷ [])))

    pub going_set : (r : Tally) → TallyIs r (g.items ++ (i ∷ [])) → (o : List ℕ) (n : ℕ) → PutIfRoom out to (item_field New i) o n → Going s before next f r n o
    going_set r y o n p =
        record {
          items = g.items ++ (i ∷ []);
          standing = k;
          tally = y;
          puts = put_if_room_named (ap (λ (l : List ℕ). fields New g.items ++ l) (sym (fields_one New i)) ∙ sym (fields_append New g.items (i ∷ []))) (put_if_room_then g.puts p);
        }

  pub going_whole : read_file s ≡ gives g.items → (o : List ℕ) (n : ℕ) → PutIfRoom out to (end_field t.characters) o n → Given s before o n
  unfolding galley
  going_whole e o n p =
      record {
        items = g.items;
        read_as = e;
        puts = put_if_room_named (ap (λ (m : ℕ). fields New g.items ++ end_field m) g.tally.characters_are) (put_if_room_then g.puts p);
      }

  pub going_end : length s ≤ at → read_file s ≡ bad (length s)
  unfolding at_end
  going_end l = standing_end s (in_page (page_state_of g.items h)) at g.standing l
