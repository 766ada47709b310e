-- Demand 3 of the second edition: each place is shown exactly, and the reader gives back the items. Then of every galley that the check accepts, and of two.
--     demand3            over lists of items
--     writes             one galley
--     distinguished      two galleys
-- Assumes nothing.
use mathlib.Core.Path.{◌≡◌, refl, sym, ap, ◌∙◌}
use mathlib.Core.List.{List}
use Prim.Native.Nat.{ℕ, ◌≤◌}
use native.Mathlib.Omega.{arith}
use lib.ListN.{length}
use Rattle.octets.specs.Octets.{Bytes}
use Rattle.octets.specs.Answer.{accepted, written, if_room, no_dvi_room, no_galley_room}
use Rattle.octets.specs.AnswerLaws.{room_enough}
use Rattle.galley_file.specs.declared.form.Form.TheVariants.{New}
use Rattle.galley_file.specs.declared.item.Item.{Item}
use Rattle.galley_file.specs.Galley.{whole, galley, read_galley, items_of}
use Rattle.galley_file.specs.GalleyLaws.{Accepted, accepted_is}
use Rattle.galley_file.specs.Outcome.{check_outcome}
use Rattle.galley_check.specs.ResultLaws.{result_made as checked-made}
use Rattle.dvi.specs.Edition.{Within, Faithful, Demand3}
use Rattle.dvi.proofs.EditionLaws.{demanded}
use Rattle.dvi2.specs.Writer.{dvi2_file}
use Rattle.dvi2.specs.WriterLaws.{file_fits}
use Rattle.dvi2.specs.Result.{dvi2_result}
use Rattle.dvi2.proofs.Items.{across}
use Rattle.dvi2.proofs.Shown.{file_shows, exact}
use Rattle.dvi2_reading.specs.Reading.{read2_result}
use Rattle.dvi2_reading.proofs.ReadingLaws.{result_made}
use Rattle.dvi2_reading.specs.Demand3.{dvi_second, Written, Distinguished}

given : (is : List Item) → Within dvi_second is → (room : ℕ) → read2_result (dvi2_file is) room ≡ if_room no_galley_room room (written (galley New is))
given is w room = result_made (dvi2_file is) is room (record { writable = record { all_valid = w.valid; few = w.few }; file_is = refl })

pub demand3 : Demand3 dvi_second
demand3 = demanded dvi_second across (omega arith) exact (λ is w. file_fits is w.few) (λ is w. file_shows w.valid w.few) given

module _ (g : List ℕ) (count : ℕ) (b : Bytes g) (e : check_outcome New g ≡ accepted count) where
  -- its items
  pub found : Accepted New g count
  found = accepted_is New g count b e

  inside : Within dvi_second found.items
  inside = record { valid = found.valid; few = found.few }

  items_are : items_of New g ≡ found.items
  unfolding items_of
  items_are = rw found.read

  accepts : (room : ℕ) → length (dvi2_file found.items) ≤ room → dvi2_result g room ≡ written (dvi2_file found.items)
  unfolding dvi2_result
  accepts room h =
      ap (if_room no_dvi_room room) (checked-made New (λ is. written (dvi2_file is)) g count (sym e) ∙ ap (λ (is : List Item). written (dvi2_file is)) items_are)
      ∙ room_enough no_dvi_room room (dvi2_file found.items) h

  pub writes : Written g
  writes =
      record {
        items = found.items;
        galley_is = found.bytes;
        within = inside;
        writer_accepts = accepts;
        faithful = demand3.faithful inside;
        given_back = λ room. given found.items inside room ∙ ap (λ (l : List ℕ). if_room no_galley_room room (written l)) (sym found.bytes);
      }

module _ (g h : List ℕ) (n m : ℕ) (bg : Bytes g) (bh : Bytes h) (eg : check_outcome New g ≡ accepted n) (eh : check_outcome New h ≡ accepted m) where
  pub distinguished : (p : Faithful dvi_second (found g n bg eg).items) (q : Faithful dvi_second (found h m bh eh).items)
      → Distinguished g h (found g n bg eg).items (found h m bh eh).items p.marks q.marks
  distinguished p q =
      let a = found g n bg eg in
      let c = found h m bh eh in
      let k = demand3.compared (inside g n bg eg) (inside h m bh eh) p.shown q.shown in
      record {
        same_file = (
          λ f. a.bytes ∙ ap (galley New) (k.same_file.0 f) ∙ sym c.bytes,
          λ f. ap dvi2_file (let r : whole a.items ≡ whole c.items = sym a.read ∙ ap (read_galley New) f ∙ c.read in cc),
        );
        compared = k;
      }
