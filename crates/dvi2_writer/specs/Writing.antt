-- The code's writing in terms of the format.
--     Tallied       what a writing knows of the items behind it: their extents, the page, and the offset of its bop
--     WritingIs     a writing of the code is that after these items
--     Ready         what writing an item asks of a writing
--     PutsItem      an item is put after any items: its bytes, and the writing after it
--     Advanced      a writing after a character
use Rattle.std.specs.Prelude.{◌≡◌, List, [], ◌∷◌, ◌++◌, ℕ, ◌<◌}
use Rattle.galley_file.specs.declared.character.Character.{Character}
use Rattle.galley_file.specs.declared.item.Item.{Item}
use Rattle.galley_file.specs.Item.{characters_of}
use Rattle.extents.specs.Extents.{ExtentsAre, with_character}
use Rattle.octets.specs.PutIfRoom.{PutIfRoom}
use Rattle.dvi2.specs.Writer.{position_at, first_writing, item_bytes, writing_after_all}
use Rattle.dvi2_writer.specs.declared.writing.Writing.{Writing}
use Rattle.dvi2_commands.specs.Position.{position_of, OnPage, PositionIs}

pub record Tallied (p : Writing) (is : List Item) : Type 0 where
  pub extents_are : ExtentsAre p.extents (characters_of is)
  pub page_is : p.page ≡ (writing_after_all first_writing is).page
  pub bop_is : p.bop ≡ (writing_after_all first_writing is).bop

pub record WritingIs (p : Writing) (is : List Item) : Type 0 where
  pub tallied : Tallied p is
  pub position : PositionIs p.position (writing_after_all first_writing is).position
  pub at_is : p.at ≡ (writing_after_all first_writing is).at

pub record Ready (p : Writing) : Type 0 where
  pub on_page : OnPage (position_of p.position)
  pub page_small : p.page < 4294967295
  pub bop_small : p.bop < 2147483648
  pub at_small : p.at < 2147483647

abbrev pub PutsItem : List ℕ → Writing → Item → List ℕ → Writing → Type 0
PutsItem before p i after r =
    (is : List Item) → WritingIs p is
    → PutIfRoom before p.at (item_bytes (writing_after_all first_writing is) i) after r.at × WritingIs r (is ++ (i ∷ []))

pub record Advanced (p : Writing) (c : Character) (at : ℕ) (r : Writing) : Type 0 where
  pub position : PositionIs r.position (position_at c)
  pub extents_are : r.extents ≡ with_character p.extents c
  pub page_is : r.page ≡ p.page
  pub bop_is : r.bop ≡ p.bop
  pub at_is : r.at ≡ at
