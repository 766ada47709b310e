-- `octets::field::starts_end` meets its contract: the tests are those of `starts_end`.
-- Assumes nothing.
use mathlib.Core.Path.{sym, ap, ◌∙◌}
use Prim.Native.Nat.{ℕ}
use native.Mathlib.Omega.{arith}
use lib.Dec.{eqb}
use Rattle.octets.specs.Field.{starts_end}
use Rattle.octets.specs.FieldLaws.{starts}
use Rattle.octets.proofs.field.starts_end.Goals as goal

pub nat4_at-requires : goal.nat4_at-requires
nat4_at-requires c = let f = starts (sym c.starts_field.ensures ∙ c.if-starts_field.true) in omega (arith, f.long)

pub returns-then-starts_field : goal.returns-then-starts_field
unfolding starts_end
returns-then-starts_field c =
    simp (sym c.starts_field.ensures ∙ c.if-starts_field.true) (ap (λ (n : ℕ). eqb n c.args.count) c.nat4_at.ensures)

pub returns-else-starts_field : goal.returns-else-starts_field
unfolding starts_end
returns-else-starts_field c = simp (sym c.starts_field.ensures ∙ c.if-starts_field.false)
