-- Demand 3 of the second edition (document 01, "Demand 3 in these terms"; document 02, "The second edition of DVI": "only the distance bound differs, here 0, at every
-- height, and this reader takes no width table and gives the galley in place of a sheet").
--     dvi_second          the edition
--     Written            of a galley: the writer accepts it, and its file shows it
--     Distinguished      of two galleys
use Rattle.std.specs.Prelude.{◌↔◌, ◌≡◌, ℕ, ◌≤◌, List, length}
use Rattle.octets.specs.Answer.{written, if_room, no_galley_room}
use Rattle.measure.specs.Place.{height_end}
use Rattle.galley_file.specs.declared.form.Form.TheVariants.{New}
use Rattle.galley_file.specs.declared.item.Item.{Item}
use Rattle.galley_file.specs.Galley.{galley}
use Rattle.sheet.specs.Sheet.{Mark}
use Rattle.dvi.specs.Edition.{Edition, Within, Faithful, Compared}
use Rattle.dvi2.specs.Writer.{dvi2_file}
use Rattle.dvi2.specs.File.{max_dvi2, show_dvi2}
use Rattle.dvi2.specs.Result.{dvi2_result}
use Rattle.dvi2_reading.specs.Reading.{read2_result}

abbrev pub dvi_second : Edition
dvi_second =
    record {
      file = dvi2_file;
      show = show_dvi2;
      distance = 0;
      greatest = height_end;
      longest = max_dvi2;
      read = read2_result;
      no_room = no_galley_room;
      reply = galley New;
    }

pub record Written (g : List ℕ) : Type 0 where
  -- "every valid galley": the characters and cuts that its bytes encode, "at every height"
  pub items : List Item
  pub galley_is : g ≡ galley New items
  pub within : Within dvi_second items
  -- "The writer accepts the galley, and the DVI file is the bytes it wrote"
  pub writer_accepts : (room : ℕ) → length (dvi2_file items) ≤ room → dvi2_result g room ≡ written (dvi2_file items)
  -- what the file shows, "stated once for both editions"
  pub faithful : Faithful dvi_second items
  -- "Its reader .. gives back the galley"
  pub given_back : (room : ℕ) → read2_result (dvi2_file items) room ≡ if_room no_galley_room room (written g)

pub record Distinguished (g h : List ℕ) (is js : List Item) (ms ns : List Mark) : Type 0 where
  -- the same file exactly where the galleys are equal
  pub same_file : (dvi2_file is ≡ dvi2_file js) ↔ (g ≡ h)
  -- "equal fonts where the font numbers are equal, and equal places where x and height are equal, at each character"
  pub compared : Compared dvi_second is js ms ns
