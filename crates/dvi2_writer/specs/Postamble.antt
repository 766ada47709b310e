-- The postamble, made of a writing.
--     Sized           what writing the postamble asks of a writing
--     postamble_of     the postamble of a file with this writing after its pages
use Rattle.std.specs.Prelude.{ℕ, ◌<◌, List, ◌++◌}
use Rattle.extents.specs.FontMarks.{marked_fonts}
use Rattle.dvi2.specs.Writer.{definition_bytes}
use Rattle.dvi2_frame.specs.Frame.{Ranged, post_of, post_post_of}
use Rattle.dvi2_writer.specs.declared.writing.Writing.{Writing}

pub record Sized (p : Writing) : Type 0 where
  pub ranged : Ranged p.extents
  pub at_small : p.at < 2000000000

unfoldable pub postamble_of : Writing → List ℕ
postamble_of p =
    post_of p.bop p.extents p.page
    ++ (definition_bytes (marked_fonts 120 p.extents.fonts.low p.extents.fonts.high) ++ post_post_of p.at)
