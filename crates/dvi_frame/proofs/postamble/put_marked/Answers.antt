-- `dvi_frame::postamble::put_marked` meets its contract: its test is that of `is_marked`.
-- Assumes nothing.
use mathlib.Core.Path.{sym, ◌∙◌}
use mathlib.Core.List.{[], ◌∷◌, flatten, append-nil}
use native.Mathlib.Omega.{arith}
use Rattle.octets.specs.Write.{named, wrote_none}
use Rattle.dvi.specs.Writer.{definition}
use Rattle.dvi.proofs.WriterLaws.{length_definitions}
use Rattle.dvi_frame.specs.Postamble.{marked_font}
use Rattle.dvi_frame.proofs.postamble.put_marked.Goals as goal

pub put_definition-requires : goal.put_definition-requires
unfolding marked_font
put_definition-requires c =
    let h = rw (sym c.has_font.ensures ∙ c.if-has_font.true) at c.requires.0 in
    (omega (arith, h, length_definitions (c.args.f ∷ [])), c.requires.1)

pub returns-then-has_font : goal.returns-then-has_font
unfolding marked_font flatten
returns-then-has_font c = rw (sym c.has_font.ensures ∙ c.if-has_font.true) (named (sym (append-nil (definition c.args.f))) c.put_definition.ensures)

pub returns-else-has_font : goal.returns-else-has_font
unfolding marked_font flatten
returns-else-has_font c = rw (sym c.has_font.ensures ∙ c.if-has_font.false) (wrote_none _ _)
