-- `dvi2_frame::bop` meets its contract: bop, written alone into its array.
-- Assumes nothing.
use mathlib.Core.Path.{ap, ◌∙◌}
use Rattle.integers.specs.Bits.{plain}
use Rattle.octets.specs.PutIfRoomLaws.{put_if_room_whole}
use Rattle.dvi2.specs.Writer.{bop_bytes}
use Rattle.dvi2.specs.WriterLaws.{length_bop}
use Rattle.dvi2_frame.proofs.bop.Goals as goal

pub returns : goal.returns
returns c =
    put_if_room_whole c.put_bop.ensures (length_bop _ _) ∙ ap (bop_bytes c.args.page) (plain c.ranges.previous)
