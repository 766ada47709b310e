-- `dvi_galley::item::valid_at` meets its contract: the tests are those of `valid`, the height's apart, which the caller knows.
-- Assumes nothing.
use mathlib.Core.Path.{◌≡◌, sym, ◌∙◌}
use mathlib.Core.Bool.{false}
use lib.IntN.{pos}
use lib.Signed.{lt_z}
use Rattle.integers.specs.Bits.{plain}
use Rattle.dvi_galley.proofs.Items.{font_negative, font_large, character_valid, character_not}
use Rattle.dvi_galley.proofs.item.valid_at.Goals as goal
use Rattle.dvi_galley.proofs.item.valid_at.Goals.{Else-font-lt0, then-font-lt0-via-then-font-lt0, then-font-lt0-via-else-font-lt0+then-font-ge-FONTS}

pub returns-then-font-lt0 : goal.returns-then-font-lt0
returns-then-font-lt0 c =
    let a = c.args in
    elim c.then-font-lt0.branch [
      | then-font-lt0-via-then-font-lt0 w ↦ font_negative a.x a.h a.ch a.font (rw (plain c.ranges.font) at w.if-font-lt0.true)
      | then-font-lt0-via-else-font-lt0+then-font-ge-FONTS w ↦ font_large a.x a.h a.ch a.font (rw (plain c.ranges.font) at w.if-font-ge-FONTS.true)
    ]

natural : (c : Else-font-lt0) → lt_z c.args.font (pos 0) ≡ false
natural c = rw (plain c.ranges.font) at c.if-font-lt0.false

pub returns-then-valid_but_height : goal.returns-then-valid_but_height
returns-then-valid_but_height c =
    let a = c.args in
    rw (plain c.ranges.font)
    (character_valid a.x a.h a.ch c.requires a.font (natural (goal.at.returns-then-valid_but_height c).Else-font-lt0) (sym c.if-valid_but_height.true ∙ rw (plain c.ranges.font) at c.valid_but_height.ensures))

pub returns-else-valid_but_height : goal.returns-else-valid_but_height
returns-else-valid_but_height c =
    let a = c.args in
    character_not a.x a.h a.ch c.requires a.font (natural (goal.at.returns-else-valid_but_height c).Else-font-lt0) (sym c.if-valid_but_height.false ∙ rw (plain c.ranges.font) at c.valid_but_height.ensures)
