-- `punch_codes::setting::backward_to` meets its contract: the comparison makes the tests of the definition.
-- Assumes nothing.
use mathlib.Core.Path.{◌≡◌, refl}
use mathlib.Core.Bool.{Bool, true, false, cond}
use Rattle.std.specs.declared.cmp.Ordering.TheVariants.{Less, Equal, Greater}
use Rattle.integers.specs.Bits.{plain}
use Rattle.punch_codes.specs.Codes.{backward_to}
use Rattle.punch_codes.proofs.setting.backward_to.Goals as goal

module _ (old : Bool) where
  less : (a b : Bool) → Less ≡ cond a Less (cond b Greater Equal) → true ≡ cond a true (cond b false old)
  less true b e = refl
  less false true e = cc
  less false false e = cc

  equal : (a b : Bool) → Equal ≡ cond a Less (cond b Greater Equal) → old ≡ cond a true (cond b false old)
  equal true b e = cc
  equal false true e = cc
  equal false false e = refl

  greater : (a b : Bool) → Greater ≡ cond a Less (cond b Greater Equal) → false ≡ cond a true (cond b false old)
  greater true b e = cc
  greater false true e = refl
  greater false false e = cc

pub returns-in-Less : goal.returns-in-Less
unfolding backward_to
returns-in-Less c = less c.args.old _ _ (rw (plain c.ranges.to, plain c.ranges.from) at c.in-Less.ensures)

pub returns-in-Equal : goal.returns-in-Equal
unfolding backward_to
returns-in-Equal c = equal c.args.old _ _ (rw (plain c.ranges.to, plain c.ranges.from) at c.in-Equal.ensures)

pub returns-in-Greater : goal.returns-in-Greater
unfolding backward_to
returns-in-Greater c = greater c.args.old _ _ (rw (plain c.ranges.to, plain c.ranges.from) at c.in-Greater.ensures)
