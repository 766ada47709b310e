-- The code's counts as those of the definitions.
--     tally_of                        the counts of what the marks so far make
--     place_in                        the place after the fields so far
--     added_by                        the field that an item adds
--     end_of, tally_reading            what a pass ends with
use Rattle.std.specs.Prelude.{List, [], ℕ, ◌+◌, ◌*◌, length, Option, Some, None, Ok, Err, Result as ResultOf}
use Rattle.octets.specs.Field.{end_field}
use Rattle.octets.specs.declared.refusal.Refusal.{Refusal}
use Rattle.octets.specs.declared.refusal.Reason.TheVariants.{NoGalley}
use Rattle.galley_file.specs.declared.form.Form.TheVariants.{New}
use Rattle.galley_file.specs.Item.{item_field, characters_of, cuts_of}
use Rattle.dvi_galley.specs.Back.{Made, nothing, made, broken}
use Rattle.galley_file.specs.declared.item.Item.{Item}
use Rattle.dvi_back.specs.declared.tally.Tally.{Tally}
use Rattle.dvi_back.specs.declared.tally.Tally.TheVariants.{Nothing, Items, Broken}

abbrev pub tally_of : Made → Tally
tally_of nothing = Nothing
tally_of (made is) = Items (cuts_of is) (length (characters_of is))
tally_of (broken place) = Broken place

-- the pages so far
abbrev pub pages_in : Tally → ℕ
pages_in Nothing = 0
pages_in (Items cuts characters) = cuts + 1
pages_in (Broken place) = 0

abbrev pub place_in : Tally → ℕ
place_in Nothing = 0
place_in (Items cuts characters) = 11 * characters + 3 * cuts
place_in (Broken place) = 0

abbrev pub field_of : Option Item → List ℕ
field_of (Some i) = item_field New i
field_of None = []

abbrev pub added_by : Tally → Option Item → List ℕ
added_by Nothing i = []
added_by (Items cuts characters) i = field_of i
added_by (Broken place) i = []

-- End after the fields, or 45
abbrev pub end_of : Tally → List ℕ
end_of Nothing = []
end_of (Items cuts characters) = end_field characters
end_of (Broken place) = []

abbrev pub tally_reading : Tally → ResultOf ℕ Refusal
tally_reading Nothing = Err (record { reason = NoGalley; place = 0 })
tally_reading (Items cuts characters) = Ok (place_in (Items cuts characters) + 7)
tally_reading (Broken place) = Err (record { reason = NoGalley; place = place })
