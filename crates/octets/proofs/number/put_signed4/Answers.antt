-- `octets::number::put_signed4` meets its contract: the four bytes of its bits.
-- Assumes nothing.
use Rattle.octets.specs.Write.{named}
use mathlib.Core.Path.{◌≡◌, ap, ◌∙◌}
use native.Mathlib.Omega.{arith}
use Rattle.integers.specs.Bits.{plain}
use Rattle.octets.specs.Octets.{bytes, residue}
use Rattle.octets.specs.OctetsLaws.{word_bytes}
use Rattle.octets.proofs.number.put_signed4.Goals as goal

pub returns : goal.returns
returns c =
    let e : c.to_bits.result ≡ residue 4294967296 c.args.z = c.to_bits.ensures ∙ ap (residue 4294967296) (plain c.ranges.z) in
    named (ap (bytes 4) e ∙ word_bytes 4 c.args.z (omega arith)) c.put_nat4.ensures
