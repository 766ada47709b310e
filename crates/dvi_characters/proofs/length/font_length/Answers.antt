-- `dvi_characters::length::font_length` meets its contract: its tests are those of the font change.
-- Assumes nothing.
use mathlib.Core.Path.{sym, ap}
use native.Mathlib.Omega.{arith}
use lib.ListN.{length}
use Rattle.octets.specs.Octets.{bytes}
use Rattle.dvi_characters.proofs.Fonts.{same_font, low_font, high_font}
use Rattle.dvi_characters.proofs.length.font_length.Goals as goal

pub returns-then-last-font : goal.returns-then-last-font
returns-then-last-font c = (sym (ap length (same_font _ _ c.requires c.if-last-font.true)), omega arith)

pub returns-then-font-lt-FONTNUMS : goal.returns-then-font-lt-FONTNUMS
returns-then-font-lt-FONTNUMS c = (sym (ap length (low_font _ _ c.if-last-font.false c.if-font-lt-FONTNUMS.true)), omega arith)

pub returns-else-font-lt-FONTNUMS : goal.returns-else-font-lt-FONTNUMS
unfolding bytes
returns-else-font-lt-FONTNUMS c = (sym (ap length (high_font _ _ c.if-last-font.false c.if-font-lt-FONTNUMS.false)), omega arith)
