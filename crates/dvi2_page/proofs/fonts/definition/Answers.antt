-- `dvi2_page::fonts::definition` meets its contract: the writer's definition, written alone into its array.
-- Assumes nothing.
use Rattle.octets.specs.PutIfRoomLaws.{put_if_room_whole}
use Rattle.dvi2.specs.WriterLaws.{length_definition}
use Rattle.dvi2_page.proofs.fonts.definition.Goals as goal

pub returns : goal.returns
returns c = put_if_room_whole c.put_definition.ensures (length_definition _)
