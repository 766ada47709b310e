-- `dvi_writer::writing::Writing::put_character` meets its contract: the commands are written; the writing goes on from the position and the place after them.
-- Assumes nothing.
use Rattle.dvi.specs.Writer as W
use Rattle.dvi_writer.specs.Writing.{writing_of}
use Rattle.dvi_characters.specs.PositionLaws.{position_set}
use Rattle.dvi_writer.proofs.writing.Writing.put_character.Goals as goal

pub returns : goal.returns
unfolding writing_of W.item_bytes W.writing_after
returns c =
    let n = position_set _ _ c.requires.1.1 in
    let w = c.put_commands-at.ensures in
    (w, record { on_page = n.on_page; writing_is = (λ i. record { position = n.position_is i; page = c.args.self.page; bop = c.args.self.bop; at = w.next_is i }) })
