-- `dvi2_turn::turn::new_page` meets its contract: the page starts at its corner, without a font.
-- Assumes nothing.
use mathlib.Core.Path.{refl}
use native.Mathlib.Nat.{suc-ne-zero}
use Rattle.integers.specs.Parts.{integers}
use Rattle.dvi.specs.Writer.{start_position}
use Rattle.dvi.specs.FontOrNone.{font_or_none}
use Rattle.dvi2_reading.specs.Reading.{new_page_state}
use Rattle.dvi2_turn.proofs.turn.new_page.Goals as goal

pub returns : goal.returns
unfolding new_page_state start_position font_or_none
returns c = (
  record {
    on_page = record { left = omega integers; right = omega integers; top = omega integers; bottom = omega integers };
    font_valid = λ f e. absurd (suc-ne-zero 0 cc);
  },
  λ is. refl,
)
