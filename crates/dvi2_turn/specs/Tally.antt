-- What is known of the items that are read so far.
--     TallyIs         a tally is that of these items
--     TallyRanged     its numbers are within their ranges
use Rattle.std.specs.Prelude.{◌≡◌, List, ◌≤◌, ◌<◌, length}
use Rattle.galley_file.specs.declared.item.Item.{Item}
use Rattle.galley_file.specs.Item.{characters_of, cuts_of}
use Rattle.galley_file.specs.Galley.{max_items}
use Rattle.extents.specs.Extents.{extents_of}
use Rattle.dvi2_frame.specs.Frame.{Ranged}
use Rattle.dvi2_reading.specs.Reached.{writing_of}
use Rattle.dvi2_turn.specs.declared.tally.Tally.{Tally}

pub record TallyIs (t : Tally) (is : List Item) : Type 0 where
  pub characters_are : t.characters ≡ length (characters_of is)
  pub cuts_are : t.cuts ≡ cuts_of is
  pub extents_are : t.extents ≡ extents_of (characters_of is)
  pub bop_is : t.bop ≡ (writing_of is).bop

pub record TallyRanged (t : Tally) : Type 0 where
  pub few : t.characters ≤ max_items
  pub few_cuts : t.cuts ≤ max_items
  pub ranged : Ranged t.extents
  pub bop_small : t.bop < 2147483648
