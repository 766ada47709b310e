-- `octets::number::signed4_at` meets its contract: the four bytes are the number's 32 bits.
-- Assumes nothing.
use mathlib.Core.Path.{sym, ap, ◌∙◌}
use mir.Syntax.{w32}
use Rattle.integers.specs.Bits.{returned}
use Rattle.octets.specs.Octets.{twos}
use Rattle.octets.specs.OctetsLaws.{signed_at_twos}
use Rattle.octets.proofs.number.signed4_at.Goals as goal

pub returns : goal.returns
returns c =
    returned w32 c.of_bits.type_inv c.of_bits.ensures
    ∙ ap (twos 4294967296) c.nat4_at.ensures
    ∙ sym (signed_at_twos 4 c.args.at c.args.s.now c.requires)
