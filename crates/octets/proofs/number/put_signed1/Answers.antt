-- `octets::number::put_signed1` meets its contract: the last of the four bytes.
-- Assumes nothing.
use mathlib.Core.Path.{◌≡◌, ap, ◌∙◌}
use mathlib.Core.List.{[], ◌∷◌}
use Prim.Native.Nat.{ℕ, ◌%◌}
use native.Mathlib.Nat.{div-one}
use native.Mathlib.Omega.{arith}
use Rattle.integers.specs.Bits.{plain}
use Rattle.octets.specs.Octets.{bytes, residue}
use Rattle.octets.specs.OctetsLaws.{word_bytes}
use Rattle.octets.specs.Write.{named}
use Rattle.octets.proofs.number.put_signed1.Goals as goal

last_byte : (n : ℕ) → n % 256 ∷ [] ≡ bytes 1 n
unfolding bytes
last_byte n = rw div-one

pub returns : goal.returns
returns c =
    let n = c.to_bits in
    let e : n.result ≡ residue 4294967296 c.args.z = n.ensures ∙ ap (residue 4294967296) (plain c.ranges.z) in
    named (last_byte n.result ∙ ap (bytes 1) e ∙ word_bytes 1 c.args.z (omega arith)) c.put_byte.ensures
