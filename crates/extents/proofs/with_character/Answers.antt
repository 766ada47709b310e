-- `extents::with_character` meets its contract, part by part.
-- Assumes nothing.
use Rattle.extents.specs.Extents.{with_character}
use Rattle.extents.proofs.with_character.Goals as goal

pub returns : goal.returns
unfolding with_character
returns c =
    let x = c.farther.ensures in
    let h = c.higher.ensures in
    let f = c.with_font.ensures in
    (λ i. record { x = record { 0 = x i }; height = record { 0 = h i }; fonts = record { low = f.0 i; high = f.1 i } })
