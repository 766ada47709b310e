-- `punch_codes::item::put_item` meets its contract: each arm is given which item it is.
-- Assumes nothing.
use mathlib.Core.Path.{sym, ap, ◌∙◌}
use mathlib.Core.List.{[], ◌∷◌}
use Rattle.measure.specs.Place.{height_end}
use Rattle.galley_file.specs.Item.{valid_item}
use Rattle.punch_codes.specs.Codes.{start_codes, item_codes, state_after}
use Rattle.octets.specs.Write.{put_named, put_then}
use Rattle.octets.specs.Space.{space_named, space_first, space_then}
use Rattle.punch_codes.proofs.item.put_item.Goals as goal

pub put_character-requires : goal.put_character-requires
unfolding state_after
put_character-requires c =
    let a = c.args in
    let p = c.requires in
    let e = c.in-Placed.is in
    ((p.0.0, p.0.1 ∙ ap (state_after a.s) e), (sym (ap (valid_item height_end) e) ∙ p.1.0, space_named (ap (item_codes a.s) e) p.1.1))

pub put_code-to-requires : goal.put_code-to-requires
unfolding item_codes
put_code-to-requires c = space_first (0x4B ∷ []) start_codes (space_named (ap (item_codes c.args.s) c.in-Cut.is) c.requires.1.1)

pub put_start-requires : goal.put_start-requires
unfolding item_codes
put_start-requires c = space_then (0x4B ∷ []) start_codes c.put_code-to.ensures (space_named (ap (item_codes c.args.s) c.in-Cut.is) c.requires.1.1)

pub returns-in-Placed : goal.returns-in-Placed
returns-in-Placed c = put_named (ap (item_codes c.args.s) (sym c.in-Placed.is)) c.put_character.ensures

pub returns-in-Cut : goal.returns-in-Cut
unfolding item_codes
returns-in-Cut c = put_named (ap (item_codes c.args.s) (sym c.in-Cut.is)) (put_then c.put_code-to.ensures c.put_start.ensures)
