-- `punch_codes::item::put_start` meets its contract.
-- Assumes nothing.
use mathlib.Core.List.{[], ◌∷◌}
use Rattle.octets.specs.Write.{put_then}
use Rattle.octets.specs.Space.{space_first, space_then}
use Rattle.punch_codes.proofs.item.put_start.Goals as goal

pub put_code-to-requires : goal.put_code-to-requires
put_code-to-requires c = space_first (0x40 ∷ []) (0xEF ∷ []) c.requires

pub put_code-requires : goal.put_code-requires
put_code-requires c = space_then (0x40 ∷ []) (0xEF ∷ []) c.put_code-to.ensures c.requires

pub returns : goal.returns
returns c = put_then c.put_code-to.ensures c.put_code.ensures
