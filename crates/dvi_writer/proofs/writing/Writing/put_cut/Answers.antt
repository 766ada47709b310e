-- `dvi_writer::writing::Writing::put_cut` meets its contract: EOP, and the next page's BOP after it.
-- Assumes nothing.
use mathlib.Core.Path.{◌≡◌, refl, ◌∙◌}
use mathlib.Core.List.{[], ◌∷◌, ◌++◌}
use Prim.Native.Nat.{ℕ, suc, ◌+◌}
use native.Mathlib.Numerals.{add-one}
use lib.ListN.{length}
use lib.IntN.{ℤ, pos}
use mir.Syntax.{w32}
use mir.Val.{SFits}
use Rattle.integers.specs.Parts.{integers}
use Rattle.integers.specs.Bits.{plain_pos}
use Rattle.octets.specs.Octets.{bytes, signed_bytes}
use Rattle.octets.specs.Write.{then, named}
use Rattle.dvi.specs.Command.{EOP}
use Rattle.dvi.specs.Writer as W
use Rattle.dvi_writer.specs.Writing.{writing_of}
use Rattle.dvi_writer.proofs.writing.Writing.put_cut.Goals as goal

-- EOP and BOP
ten : (n : ℕ) (z : ℤ) (at : ℕ) → at + length ((EOP ∷ []) ++ W.bop_bytes (suc n) z) ≡ at + 10
unfolding W.bop_bytes signed_bytes bytes
ten n z at = refl

pub returns : goal.returns
unfolding writing_of W.item_bytes W.writing_after
returns c =
    let a = c.args.self in
    let e = c.put_byte-bop.ensures in
    let w = c.put_bop-at.ensures in
    let n = c.requires.1.1 in
    let f : SFits w32 (pos a.bop) = omega (integers, c.requires.0.1.1) in
    let k = then e (named (λ i. W.bop_bytes (add-one a.page i) (plain_pos f i)) w) in
    (k, record { on_page = n.on_page; writing_is = (λ i. record { position = n.position_is i; page = add-one a.page i; bop = e.next_is i; at = (k.next_is ∙ ten a.page (pos a.bop) a.at) i }) })
