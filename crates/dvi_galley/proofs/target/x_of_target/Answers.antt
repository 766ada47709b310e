-- `dvi_galley::target::x_of_target` meets its contract: outside the table there is no place; in it the target of the place nearest to three times
-- the number decides (`Targets`).
-- Assumes nothing.
use mathlib.Core.Path.{◌≡◌, sym, ap, ◌∙◌}
use mathlib.Core.Option.{some}
use Prim.Native.Nat.{ℕ}
use native.Mathlib.Omega.{arith}
use borrow.Author.Rules.{rules}
use lib.IntN.{ℤ, pos, negsuc, ◌+ℤ◌, ◌*ℤ◌}
use lib.Signed.{◌≤ℤ◌}
use mir.Syntax.{w32}
use mir.Val.{SFits, of_z}
use Rattle.integers.specs.Parts.{integers, non_neg_by, sum_parts}
use Rattle.integers.specs.Bits.{plain, plain_pos, same_bits}
use Rattle.measure.specs.Target.{x_target, entry_x}
use Rattle.dvi_galley.proofs.Targets.{left_of_all, right_of_all, shifted, thrice_fits, shifted_fits, shifted_natural, shifted_small, index, index_below, index_fits, index_place, place_fits, index_found, index_missing}
use Rattle.dvi_galley.proofs.target.x_of_target.Goals as goal
use Rattle.dvi_galley.proofs.target.x_of_target.Goals.{Else-z-2, After-target-found, then-z-via-then-z, then-z-via-else-z+then-z-2}

pub returns-then-z : goal.returns-then-z
returns-then-z c =
    let t = c.args.t.0 in
    let f : SFits w32 t = search rules in
    elim c.then-z.branch [
      | then-z-via-then-z w ↦ sym (left_of_all t (rw (plain f) at w.if-z.true))
      | then-z-via-else-z+then-z-2 w ↦ sym (right_of_all t (rw (plain f) at w.if-z-2.true))
    ]

module _ (c : Else-z-2) where
  abbrev t : ℤ
  t = c.args.t.0

  t-fits : SFits w32 t
  t-fits = search rules

  low : negsuc 600746 ≤ℤ t
  low = let h = rw (plain t-fits) at c.if-z.false in omega (integers, h)

  high : t ≤ℤ pos 35378517
  high = let h = rw (plain t-fits) at c.if-z-2.false in omega (integers, h)

  abbrev k : ℕ
  k = index t low high

  -- the place, as the code makes it, and that nothing on the way to it leaves 32 bits
  abbrev x : ℤ
  x = pos k +ℤ negsuc 54

  thrice : SFits w32 (pos 3 *ℤ t)
  thrice = thrice_fits t low high

  sum : SFits w32 (shifted t low high)
  sum = shifted_fits t low high

  k-fits : SFits w32 (pos k)
  k-fits = index_fits t low high

  x_fits : SFits w32 x
  x_fits = place_fits t low high

pub overflow_mul-k : goal.overflow_mul-k
overflow_mul-k c = rw (plain (t-fits c)) (thrice c)

pub overflow_add-k : goal.overflow_add-k
overflow_add-k c = rw (plain (t-fits c), plain (thrice c)) (sum c)

pub overflow_cast-k : goal.overflow_cast-k
overflow_cast-k c =
    rw (plain (t-fits c), plain (thrice c), plain (sum c))
    (non_neg_by (shifted (t c) (low c) (high c)) (shifted_natural (t c) (low c) (high c)), record { fits = omega (arith, shifted_small (t c) (low c) (high c)) })

pub overflow_cast-x : goal.overflow_cast-x
overflow_cast-x c = rw (plain (t-fits c), plain (thrice c), plain (sum c)) (k-fits c)

pub overflow_add-x : goal.overflow_add-x
overflow_add-x c =
    rw (plain (t-fits (goal.at.overflow_add-x c).Else-z-2), plain (thrice (goal.at.overflow_add-x c).Else-z-2), plain (sum (goal.at.overflow_add-x c).Else-z-2), plain_pos {w = w32} (k-fits (goal.at.overflow_add-x c).Else-z-2)) (x_fits (goal.at.overflow_add-x c).Else-z-2)

pub target-found-requires : goal.target-found-requires
target-found-requires c =
    let p = (goal.at.target-found-requires c).Else-z-2 in
    let s = sum_parts (pos (k p)) (negsuc 54) in
    rw (plain (t-fits p), plain (thrice p), plain (sum p), plain_pos {w = w32} (k-fits p), plain (x_fits p))
    (record { negsuc_bound = (omega (integers, s), omega (integers, index_below (t p) (low p) (high p), s)); targets_value = search rules })

-- the target there
there-is : (c : After-target-found) → c.target-found.result.0 ≡ x_target (entry_x (k c.before.before.before))
there-is c =
    rw (plain (t-fits c.before.before.before), plain (thrice c.before.before.before), plain (sum c.before.before.before), plain_pos {w = w32} (k-fits c.before.before.before), plain (x_fits c.before.before.before)) at c.target-found.ensures
    ∙ ap x_target (index_place (t c.before.before.before) (low c.before.before.before) (high c.before.before.before))

there-fits : (c : After-target-found) → SFits w32 c.target-found.result.0
there-fits c = search rules

pub returns-then-found-z : goal.returns-then-found-z
returns-then-found-z c =
    let q = same_bits {w = w32} (there-fits (goal.at.returns-then-found-z c).After-target-found) (t-fits (goal.at.returns-then-found-z c).Else-z-2) c.if-found-z.true in
    rw (plain (t-fits (goal.at.returns-then-found-z c).Else-z-2), plain (thrice (goal.at.returns-then-found-z c).Else-z-2), plain (sum (goal.at.returns-then-found-z c).Else-z-2), plain_pos {w = w32} (k-fits (goal.at.returns-then-found-z c).Else-z-2), plain (x_fits (goal.at.returns-then-found-z c).Else-z-2))
    (ap some (index_place (t (goal.at.returns-then-found-z c).Else-z-2) (low (goal.at.returns-then-found-z c).Else-z-2) (high (goal.at.returns-then-found-z c).Else-z-2)) ∙ sym (index_found (t (goal.at.returns-then-found-z c).Else-z-2) (low (goal.at.returns-then-found-z c).Else-z-2) (high (goal.at.returns-then-found-z c).Else-z-2) (sym (there-is (goal.at.returns-then-found-z c).After-target-found) ∙ q)))

pub returns-else-found-z : goal.returns-else-found-z
returns-else-found-z c =
    sym (index_missing (t (goal.at.returns-else-found-z c).Else-z-2) (low (goal.at.returns-else-found-z c).Else-z-2) (high (goal.at.returns-else-found-z c).Else-z-2) (λ q. c.if-found-z.false (ap (of_z w32) (there-is (goal.at.returns-else-found-z c).After-target-found ∙ q))))
