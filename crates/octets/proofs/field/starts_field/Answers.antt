-- `octets::field::starts_field` meets its contract: the tests are those of `starts_field`.
-- Assumes nothing.
use borrow.Author.Tests.{lt-leb, le-leb, ne_eqb, eq-eqb}
use Rattle.octets.specs.Field.{starts_field}
use mathlib.Core.Path.{ap}
use Prim.Native.Nat.{ℕ}
use lib.Dec.{eqb}
use Rattle.octets.proofs.field.starts_field.Goals as goal

pub returns-then-s-len : goal.returns-then-s-len
unfolding starts_field
returns-then-s-len c = simp (lt-leb _ _ c.if-s-len.true)

pub returns-then-s-tag : goal.returns-then-s-tag
unfolding starts_field
returns-then-s-tag c = simp (le-leb _ _ c.if-s-len.false, ne_eqb _ _ c.if-s-tag.true)

pub returns : goal.returns
unfolding starts_field
returns c =
    simp (le-leb _ _ c.if-s-len.false, eq-eqb _ _ c.if-s-tag.false) (ap (λ (n : ℕ). eqb n c.args.len) c.nat2_at.ensures.0)
