-- What a file needs to know of its items before the first of them is written.
--     item_length     the bytes of an item after a position
--     PlanIs         the plan of some items: the length of their bytes, and their extents
use Rattle.std.specs.Prelude.{◌≡◌, List, ℕ, length}
use Rattle.galley_file.specs.declared.item.Item.{Item}
use Rattle.galley_file.specs.declared.item.Item.TheVariants.{Placed, Cut}
use Rattle.galley_file.specs.Item.{characters_of}
use Rattle.extents.specs.Extents.{extents_of}
use Rattle.dvi.specs.Writer.{Position, commands_of, first_writing, items_bytes}
use Rattle.dvi_writer.specs.declared.plan.Plan.{Plan}

-- a cut is an EOP and a BOP
abbrev pub item_length : Position → Item → ℕ
item_length p (Placed c) = length (commands_of p c)
item_length p Cut = 10

pub record PlanIs (p : Plan) (is : List Item) : Type 0 where
  pub length_is : p.length ≡ length (items_bytes first_writing is)
  pub extents_are : p.extents ≡ extents_of (characters_of is)
