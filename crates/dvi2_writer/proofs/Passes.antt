-- One turn of the pass over a galley: the items gone by are written as far as they have room, and the writing is that after them.
-- Assumes nothing.
use mathlib.Core.Path.{◌≡◌, sym, ap, subst}
use mathlib.Core.Bool.{true}
use mathlib.Core.List.{List, [], ◌∷◌, ◌++◌}
use Prim.Native.Nat.{ℕ, ◌≤◌}
use native.Mathlib.Omega.{arith}
use lib.ListN.{length, length-append}
use Rattle.measure.specs.Place.{height_end}
use Rattle.octets.specs.Transducer.{transduced}
use Rattle.octets.proofs.TransducerLaws.{transduced_more}
use Rattle.galley_file.specs.declared.form.Form.TheVariants.{New}
use Rattle.galley_file.specs.declared.item.Item.{Item}
use Rattle.galley_file.specs.Item.{valid_item}
use Rattle.galley_file.specs.Galley.{max_items, AllValid, read_galley, items_of}
use Rattle.galley_file.specs.GalleyLaws.{checked}
use Rattle.galley_file.specs.FieldsLaws.{valid_turn}
use Rattle.galley_file.specs.ReadingLaws.{reading_valid}
use Rattle.galley_check.specs.declared.galley.CheckedGalley.{CheckedGalley}
use Rattle.galley_check.specs.Accepted.{accepted_as}
use Rattle.dvi2.specs.Writer.{first_writing, item_bytes, items_bytes, writing_after_all, writing_after}
use Rattle.dvi2.specs.WriterLaws.{writing_small}
use Rattle.dvi2_writer.specs.declared.writing.Writing.{Writing}
use Rattle.octets.specs.PutIfRoom.{PutIfRoom}
use Rattle.dvi2_writer.specs.Writing.{WritingIs, Ready}
use Rattle.octets.specs.PutIfRoomLaws.{put_if_room_none, put_if_room_then, put_if_room_named}

-- ---- a checked galley

module _ (g : CheckedGalley) where
  pub few : length (items_of New g.bytes.now) ≤ max_items
  unfolding items_of
  few = let k = checked New g.bytes.now g.count (accepted_as _ _ _ g.accepted) in rw k.read k.few

  pub all_valid : AllValid height_end (items_of New g.bytes.now)
  unfolding items_of read_galley
  all_valid =
      let k = checked New g.bytes.now g.count (accepted_as _ _ _ g.accepted) in
      rw k.read (reading_valid New k.items max_items g.bytes.now 0 0 k.read)

-- ---- the pass

pub record Printed (done : List Item) (first out : List ℕ) (p : Writing) : Type 0 where
  pub puts : PutIfRoom first 60 (items_bytes first_writing done) out p.at
  pub writing : WritingIs p done

pub printed_start : (first : List ℕ) (p : Writing) → WritingIs p [] → Printed [] first first p
unfolding transduced first_writing
printed_start first p n = record { puts = rw n.at_is (put_if_room_none first 60); writing = n }

module _ (done : List Item) (first out : List ℕ) (p : Writing) (m : Printed done first out p) (i : Item) where
  -- what writing one item more asks
  pub printed_asks : (is rest : List Item) → is ≡ done ++ (i ∷ rest) → AllValid height_end is → length is ≤ max_items → Ready p × (valid_item height_end i ≡ true)
  printed_asks is rest e v f =
      let small = writing_small done 1 (omega (arith, f, ap length e, length-append done (i ∷ rest))) in
      let x = m.writing.tallied in (
        record {
          on_page = m.writing.position.on_page;
          page_small = omega (arith, x.page_is, small.page_small);
          bop_small = omega (arith, x.bop_is, small.bop_before, small.at_small);
          at_small = omega (arith, m.writing.at_is, small.at_small);
        },
        valid_turn height_end done rest i (subst (AllValid height_end) e v),
      )

  pub printed_next : (later : List ℕ) (r : Writing)
      → ((is : List Item) → WritingIs p is → (PutIfRoom out p.at (item_bytes (writing_after_all first_writing is) i) later r.at) × WritingIs r (is ++ (i ∷ [])))
      → Printed (done ++ (i ∷ [])) first later r
  printed_next later r w =
      let v = w done m.writing in
      record {
        puts = put_if_room_named (sym (transduced_more item_bytes writing_after first_writing done i)) (put_if_room_then m.puts v.0);
        writing = v.1;
      }
