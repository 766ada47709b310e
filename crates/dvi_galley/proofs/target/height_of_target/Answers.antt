-- `dvi_galley::target::height_of_target` meets its contract: the tests are those of `height_of_target`.
-- Assumes nothing.
use mathlib.Core.Path.{◌≡◌}
use mathlib.Core.Bool.{false}
use Prim.Native.Nat.{◌/◌, ◌≤◌}
use borrow.Author.Rules.{rules}
use lib.IntN.{ℤ, pos, nat_abs}
use lib.Signed.{lt_z}
use mir.Syntax.{w32}
use mir.Val.{SFits}
use Rattle.integers.specs.Parts.{integers, bounds, abs_parts, range_parts, non_neg_by, true_le_z}
use Rattle.integers.specs.Bits.{plain, plain_pos}
use Rattle.dvi_galley.proofs.Targets.{height_negative, height_found, height_missing}
use Rattle.dvi_galley.proofs.target.height_of_target.Goals as goal
use Rattle.dvi_galley.proofs.target.height_of_target.Goals.{Else-z-lt0}

pub returns-then-z-lt0 : goal.returns-then-z-lt0
returns-then-z-lt0 c =
    let t = c.args.t.0 in
    let f : SFits w32 t = search rules in
    (height_negative t (rw (plain f) at c.if-z-lt0.true), tt)

module _ (c : Else-z-lt0) where
  abbrev t : ℤ
  t = c.args.t.0

  t-fits : SFits w32 t
  t-fits = search rules

  natural : lt_z t (pos 0) ≡ false
  natural = rw (plain t-fits) at c.if-z-lt0.false

  low : nat_abs t / 32768 ≤ 65536
  low =
      let r = range_parts t 0 2147483647 (omega (integers, natural)) (omega (integers, bounds t-fits)) in
      omega (integers, r, abs_parts t)

  low_fits : SFits w32 (pos (nat_abs t / 32768))
  low_fits = omega (integers, low)

pub overflow_cast-n : goal.overflow_cast-n
overflow_cast-n c =
    rw (plain (t-fits c)) (non_neg_by (t c) (omega (integers, natural c)), record { fits = omega (integers, bounds (t-fits c), abs_parts (t c)) })

pub overflow_cast-result : goal.overflow_cast-result
overflow_cast-result c = rw (plain (t-fits (goal.at.overflow_cast-result c).Else-z-lt0)) (low_fits (goal.at.overflow_cast-result c).Else-z-lt0)

pub returns-then-n-eq0 : goal.returns-then-n-eq0
returns-then-n-eq0 c =
    rw (plain (t-fits (goal.at.returns-then-n-eq0 c).Else-z-lt0), plain_pos {w = w32} (low_fits (goal.at.returns-then-n-eq0 c).Else-z-lt0)) (
      height_found (t (goal.at.returns-then-n-eq0 c).Else-z-lt0) (natural (goal.at.returns-then-n-eq0 c).Else-z-lt0) (rw (plain (t-fits (goal.at.returns-then-n-eq0 c).Else-z-lt0)) at c.if-n-eq0.true),
      rw (true_le_z (pos 0) (pos (nat_abs (t (goal.at.returns-then-n-eq0 c).Else-z-lt0) / 32768)) (omega integers), true_le_z (pos (nat_abs (t (goal.at.returns-then-n-eq0 c).Else-z-lt0) / 32768)) (pos 1000000) (omega (integers, low (goal.at.returns-then-n-eq0 c).Else-z-lt0))),
    )

pub returns-else-n-eq0 : goal.returns-else-n-eq0
returns-else-n-eq0 c =
    (height_missing (t (goal.at.returns-else-n-eq0 c).Else-z-lt0) (natural (goal.at.returns-else-n-eq0 c).Else-z-lt0) (rw (plain (t-fits (goal.at.returns-else-n-eq0 c).Else-z-lt0)) at c.if-n-eq0.false), tt)
