-- `dvi_characters::command::put_font` meets its contract: its tests are those of the font change.
-- Assumes nothing.
use mathlib.Core.Path.{◌≡◌, refl, sym, ap}
use mathlib.Core.List.{[], ◌∷◌}
use Prim.Native.Nat.{◌+◌}
use native.Mathlib.Omega.{arith}
use lib.ListN.{length}
use Rattle.octets.specs.Octets.{bytes}
use Rattle.octets.specs.Write.{then, named, wrote_none, room_after}
use Rattle.dvi.specs.Command.{FONT, FONTNUM}
use Rattle.dvi.specs.Writer.{font_change}
use Rattle.dvi.specs.FontOrNone.{font_or_none}
use Rattle.dvi_characters.proofs.Fonts.{same_font, low_font, high_font}
use Rattle.dvi_characters.proofs.command.put_font.Goals as goal
use Rattle.dvi_characters.proofs.command.put_font.Goals.{Then-font-lt-FONTNUMS, Else-font-lt-FONTNUMS}

-- FONTNUM where the font is low, FONT where it is high
is-low : (c : Then-font-lt-FONTNUMS) → let a = c.args in font_change (font_or_none a.last) a.font ≡ (FONTNUM + a.font) ∷ []
is-low c = low_font _ _ c.if-last-font.false c.if-font-lt-FONTNUMS.true

is-high : (c : Else-font-lt-FONTNUMS) → let a = c.args in font_change (font_or_none a.last) a.font ≡ FONT ∷ bytes 4 a.font
is-high c = high_font _ _ c.if-last-font.false c.if-font-lt-FONTNUMS.false

pub put_byte-requires : goal.put_byte-requires
put_byte-requires c = omega (arith, c.requires.0, ap length (is-low (goal.at.put_byte-requires c).Then-font-lt-FONTNUMS))

pub put_byte-to-requires : goal.put_byte-to-requires
unfolding bytes
put_byte-to-requires c = omega (arith, c.requires.0, ap length (is-high (goal.at.put_byte-to-requires c).Else-font-lt-FONTNUMS))

pub put_nat4-requires : goal.put_nat4-requires
unfolding bytes
put_nat4-requires c =
    room_after c.put_byte-to.ensures 1 4 refl (omega (arith, c.requires.0, ap length (is-high (goal.at.put_nat4-requires c).Else-font-lt-FONTNUMS)))

pub returns-then-last-font : goal.returns-then-last-font
returns-then-last-font c = named (sym (same_font _ _ c.requires.1 c.if-last-font.true)) (wrote_none _ _)

pub returns-then-font-lt-FONTNUMS : goal.returns-then-font-lt-FONTNUMS
returns-then-font-lt-FONTNUMS c = named (sym (is-low (goal.at.returns-then-font-lt-FONTNUMS c).Then-font-lt-FONTNUMS)) c.put_byte.ensures

pub returns-else-font-lt-FONTNUMS : goal.returns-else-font-lt-FONTNUMS
returns-else-font-lt-FONTNUMS c = named (sym (is-high (goal.at.returns-else-font-lt-FONTNUMS c).Else-font-lt-FONTNUMS)) (then c.put_byte-to.ensures c.put_nat4.ensures)
