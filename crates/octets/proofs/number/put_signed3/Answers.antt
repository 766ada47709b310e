-- `octets::number::put_signed3` meets its contract: a byte and two more, the last three of the four.
-- Assumes nothing.
use mathlib.Core.Path.{◌≡◌, ap, ◌∙◌}
use native.Mathlib.Omega.{arith}
use Rattle.integers.specs.Bits.{plain}
use Rattle.octets.specs.Octets.{bytes, residue}
use Rattle.octets.specs.OctetsLaws.{word_bytes}
use Rattle.octets.specs.Write.{then, named}
use Rattle.octets.proofs.number.put_signed3.Goals as goal

pub returns : goal.returns
unfolding bytes
returns c =
    let e : c.to_bits-n.result ≡ residue 4294967296 c.args.z = c.to_bits-n.ensures ∙ ap (residue 4294967296) (plain c.ranges.z) in
    named (ap (bytes 3) e ∙ word_bytes 3 c.args.z (omega arith))
    (then c.put_byte-next.ensures c.put_nat2.ensures)
